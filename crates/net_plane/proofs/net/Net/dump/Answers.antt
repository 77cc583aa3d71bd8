use Rattle.std.proofs.Common.{◌≡◌, IfOk, ap, subst, ◌∙◌}
use Rattle.serde_json.specs.View.{view}
use Rattle.net_status.specs.Interfaces as spec
use Rattle.net_rules.specs.declared.inputs.Inputs.{Inputs}
use Rattle.net_plane.specs.Network.{Network}
use Rattle.net_plane.proofs.net.Net.dump.Goals as goal

pub returns : goal.returns
returns c = subst (λ (i : Inputs). IfOk c.dump.result (λ shown. view shown ≡ spec.dump i)) (c.in_ok-inputs.ensures ∙ ap (λ (n : Network). n.inputs) c.self.view_is) c.dump.ensures
