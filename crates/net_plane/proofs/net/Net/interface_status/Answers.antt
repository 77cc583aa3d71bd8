use Rattle.std.proofs.Common.{◌≡◌, IfOk, ap, subst, ◌∙◌}
use Rattle.std.specs.Option.{option_map}
use Rattle.serde_json.specs.View.{view}
use Rattle.net_status.specs.Interfaces as spec
use Rattle.net_rules.specs.declared.inputs.Inputs.{Inputs}
use Rattle.net_plane.specs.Network.{Network}
use Rattle.net_plane.specs.declared.net_error.NetError.TheVariants as error
use Rattle.net_plane.proofs.StatusLemmas.{shows}
use Rattle.net_plane.proofs.net.Net.interface_status.Goals as goal

pub returns : goal.returns
returns c =
    let name = c.args.name.now in
    shows view (spec.interface_status c.args.self.now.inputs name) error.NoInterface c.interface_status-shown.result c.shown_or.result c.shown_or.ensures
    (subst (λ (i : Inputs). IfOk c.interface_status-shown.result (λ s. option_map view s ≡ spec.interface_status i name)) (c.in-Ok.ensures ∙ ap (λ (n : Network). n.inputs) c.self.view_is) c.interface_status-shown.ensures)
