use Rattle.std.proofs.Common.{List, ap, ◌∙◌}
use Rattle.net_rules.specs.declared.inputs.OperatorState.{OperatorState}
use Rattle.net_view.specs.Places.{named}
use Rattle.net_looks.proofs.look.Look.operator_state.Goals as goal

pub returns : goal.returns
returns c = c.operator_state_for.ensures ∙ ap (λ (z : List OperatorState). named (λ (k : OperatorState). k.interface) z c.args.interface.now) c.operator_states.ensures
