use Rattle.net_rules.specs.declared.inputs.OperatorState.{OperatorState}
use Rattle.net_view.proofs.PlaceLemmas.{by_map, by_map_none}
use Rattle.net_view.proofs.index.Index.operator_state.Goals as goal

pub returns-in-Some : goal.returns-in-Some
returns-in-Some c = by_map (λ (operator_state : OperatorState). operator_state.interface) c.args.inputs.now.operator_states c.args.name.now c.args.self.now.operator_states c.in-Some.place.now c.as_slice.result.now c.get-in-Some.result
    c.requires.operator_states
    c.in-Some.ensures.value c.as_slice.ensures c.get-in-Some.ensures.lookup

pub returns-in-None : goal.returns-in-None
returns-in-None c = by_map_none (λ (operator_state : OperatorState). operator_state.interface) c.args.inputs.now.operator_states c.args.name.now c.args.self.now.operator_states c.requires.operator_states c.in-None.ensures.value
