use Rattle.std.proofs.Common.{refl, subst, arith}
use Rattle.std.specs.List.{All}
use Rattle.std.proofs.lemmas.List.{take_all}
use Rattle.std.proofs.lemmas.List.Elements.{All-more}
use Rattle.plane_outside.specs.Hub.{IsWhole}
use Rattle.plane_outside.proofs.mem_hub.are_whole.Goals as goal

pub loop-event-preserved : goal.loop-event-preserved
loop-event-preserved c =
    All-more IsWhole c.args.events.now c.loop-event.event-index c.event-item.result (omega (arith, c.loop-event-test.true)) c.loop-event.invariant
    (subst IsWhole c.event-item.is (c.is_whole.ensures.0 c.if-not-is_whole.false))

pub returns : goal.returns
returns c = (λ _. subst (All IsWhole) (take_all c.loop-event.event-index c.args.events.now (omega (arith, c.loop-event-test.false))) c.loop-event.invariant, λ _. refl)
