use Rattle.std.proofs.Common.{ap, sym, ◌∙◌}
use Rattle.std.specs.Option.{option_copied}
use Rattle.known_inputs.specs.Places.{is_request_of}
use Rattle.known_inputs.proofs.known.is_request_of.Goals as goal

pub returns-in-None : goal.returns-in-None
returns-in-None c = ap (is_request_of c.args.interface.now) (sym (ap option_copied c.in-None.is) ∙ c.request_at.ensures)
