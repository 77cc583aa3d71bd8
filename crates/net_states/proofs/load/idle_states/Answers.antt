use Rattle.std.proofs.Common.{List, subst}
use Rattle.std.proofs.lemmas.List.{take_all}
use Rattle.net_rows.specs.declared.rows.InterfaceRow.{InterfaceRow}
use Rattle.net_states.specs.Load.{IsNotedIdle, AreBeside}
use Rattle.net_states.proofs.LoadLemmas.{beside_none, pushed_beside, row_at}
use Rattle.net_states.proofs.load.idle_states.Goals as goal

pub loop-place-init : goal.loop-place-init
loop-place-init c = beside_none (IsNotedIdle c.args.inputs.now) c.in_ok-states.states.items c.in_ok-states.ensures.items

pub idle_state-requires-clause-at : goal.idle_state-requires-clause-at
idle_state-requires-clause-at c = row_at c.args.rows.now c.args.inputs.now.conf.interfaces c.loop-place.place c.index-rows-place.result c.requires.rows c.loop-place-test.true c.index-rows-place.is

pub loop-place-preserved : goal.loop-place-preserved
loop-place-preserved c = pushed_beside (IsNotedIdle c.args.inputs.now) c.args.rows.now c.loop-place.states.items c.push.new.self.items c.loop-place.place c.index-rows-place.result c.idle_state.result c.loop-place-test.true
    c.index-rows-place.is c.loop-place.invariant c.idle_state.ensures c.in_ok-push.ensures.items

pub returns : goal.returns
returns c = subst (λ (z : List InterfaceRow). AreBeside (IsNotedIdle c.args.inputs.now) z c.loop-place.states.items) (take_all c.loop-place.place c.args.rows.now c.loop-place-test.false) c.loop-place.invariant
