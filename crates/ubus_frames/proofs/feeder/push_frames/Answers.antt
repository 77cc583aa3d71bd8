use Rattle.std.proofs.Common.{Err, ◌∙◌, ap, refl, sym}
use Rattle.ubus_frames.specs.Fault.{IsFrameFault}
use Rattle.ubus_frames.specs.Feeding.{HasFront, a_fault, no_fault}
use Rattle.ubus_frames.specs.Layout.{IsUnfinished}
use Rattle.ubus_frames.proofs.StreamLemmas.{front_found, rest_found, front_shorter, pushes_start, pushes_more, pushes_end}
use Rattle.ubus_frames.proofs.feeder.push_frames.Goals as goal

pub loop-front-init : goal.loop-front-init
loop-front-init c = pushes_start _ _ _ c.reserve.ensures.items

pub loop-front-smaller : goal.loop-front-smaller
loop-front-smaller c =
    let h : HasFront c.loop-front.rest.now c.in-Ok-Some.front = front_found _ _ _ c.in-Ok-Some.field-0-is c.in-Ok-Some.ensures.found in
    front_shorter _ _ h

pub loop-front-preserved : goal.loop-front-preserved
loop-front-preserved c =
    let h : HasFront c.loop-front.rest.now c.in-Ok-Some.front = front_found _ _ _ c.in-Ok-Some.field-0-is c.in-Ok-Some.ensures.found in
    pushes_more _ _ _ _ _ _ _ c.loop-front.invariant h c.in_ok-push_back-in-Ok-Some.ensures.items

pub returns-in-Ok-None-clause-found : goal.returns-in-Ok-None-clause-found
returns-in-Ok-None-clause-found c =
    let u : IsUnfinished c.loop-front.rest.now = rest_found _ _ c.in-Ok-None.field-0-is c.in-Ok-None.ensures.found in
    pushes_end _ _ _ _ _ _ c.loop-front.invariant (no_fault refl u)

pub returns-in-Err-clause-found : goal.returns-in-Err-clause-found
returns-in-Err-clause-found c =
    let k = c.in_ok-fault-in-Err.ensures in
    let fault = c.in_ok-fault-in-Err.field-0 in
    let f : IsFrameFault c.loop-front.rest.now fault = c.read_front.ensures.refused fault (c.in-Err.is ∙ ap Err (sym k.0)) k.1 in
    pushes_end _ _ _ _ _ _ c.loop-front.invariant (a_fault fault refl k.1 f)
