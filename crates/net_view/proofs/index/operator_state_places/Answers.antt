use Rattle.net_rules.specs.declared.inputs.OperatorState.{OperatorState}
use Rattle.net_view.proofs.PlaceLemmas.{places_go_on}
use Rattle.net_view.proofs.index.operator_state_places.Goals as goal

pub loop-place-preserved : goal.loop-place-preserved
loop-place-preserved c = places_go_on (λ (operator_state : OperatorState). operator_state.interface) c.loop-place.places c.note_text.new.places c.args.operator_states.now c.loop-place.place c.index-operator_states-place.result
    c.loop-place.invariant
    c.in_ok-note_text.ensures c.loop-place-test.true c.index-operator_states-place.is
