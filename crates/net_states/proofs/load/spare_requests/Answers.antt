use Rattle.std.proofs.Common.{arith, List, subst}
use Rattle.std.proofs.lemmas.List.{take_all}
use Rattle.net_rows.specs.declared.rows.InterfaceRow.{InterfaceRow}
use Rattle.net_rules.specs.declared.state.InterfaceState.{InterfaceState}
use Rattle.net_states.specs.Load.{IsSpare, AreBeside}
use Rattle.net_states.proofs.LoadLemmas.{beside_none, pushed_beside, spare_of}
use Rattle.net_states.proofs.load.spare_requests.Goals as goal

pub loop-place-init : goal.loop-place-init
loop-place-init c = beside_none (IsSpare c.args.states.now) c.in_ok-requests.requests.items c.in_ok-requests.ensures.items

pub loop-place-preserved : goal.loop-place-preserved
loop-place-preserved c =
    let rows : List InterfaceRow = c.args.rows.now in
    let states : List InterfaceState = c.args.states.now in
    let within = c.loop-place-test.true in
    let size = c.requires in
    let spare = spare_of states c.loop-place.place c.index-rows-place.result c.index-states-place.result c.in_ok-spare_request.field-0 (omega arith) c.index-states-place.is c.in_ok-spare_request.ensures in
    pushed_beside (IsSpare states) rows c.loop-place.requests.items c.push.new.self.items c.loop-place.place c.index-rows-place.result c.in_ok-spare_request.field-0 within c.index-rows-place.is c.loop-place.invariant spare
    c.in_ok-push.ensures.items

pub returns : goal.returns
returns c = subst (λ (z : List InterfaceRow). AreBeside (IsSpare c.args.states.now) z c.loop-place.requests.items) (take_all c.loop-place.place c.args.rows.now c.loop-place-test.false) c.loop-place.invariant
