use Rattle.std.proofs.Common.{ap, sym, ◌∙◌}
use Rattle.std.specs.Option.{option_copied}
use Rattle.rpc_session.specs.Arguments as spec
use Rattle.rpc_session.proofs.arguments.session_named.Goals as goal

pub returns-in-Some : goal.returns-in-Some
returns-in-Some c = c.id_of.ensures ∙ ap spec.id_spelled (ap option_copied (sym c.in-Some.is) ∙ c.text_argument.ensures)

pub returns-in-None : goal.returns-in-None
returns-in-None c = ap spec.id_spelled (ap option_copied (sym c.in-None.is) ∙ c.text_argument.ensures)
