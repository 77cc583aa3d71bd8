use Rattle.std.proofs.Common.{◌≡◌, List, IfOk, subst, sym, ◌∙◌}
use Rattle.ubus_table.specs.Frames.{Sent}
use Rattle.ubus_table.specs.Refusal.{numbered}
use Rattle.ubus_send.specs.Fits.{fits}
use Rattle.ubus_send.specs.Out.{out_of}
use Rattle.ubus_send.proofs.OutLemmas.{refused_aloud}
use Rattle.ubus_send.proofs.refusals.refusal_if_asked.Goals as goal

pub returns : goal.returns
returns c = λ place. subst (λ (sent : List Sent). IfOk c.refusal.result (λ out. out ≡ out_of sent))
    (sym (refused_aloud fits place c.args.client c.args.request.now (numbered c.args.code) (sym c.is_set.ensures ∙ c.if-is_set.false)))
    (c.refusal.ensures place)
