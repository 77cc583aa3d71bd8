use Rattle.std.proofs.Common.{sym, ◌∙◌}
use Rattle.net_refused.proofs.LookLemmas.{number_is_open}
use Rattle.net_refused.proofs.interfaces.number_refusal.Goals as goal

pub returns-then-is_number_of : goal.returns-then-is_number_of
returns-then-is_number_of c =
    number_is_open c.args.inputs.now.inputs c.args.interface.now c.args.number c.conf-rows.ensures.once (sym c.is_number_of.ensures ∙ c.if-is_number_of.true)
