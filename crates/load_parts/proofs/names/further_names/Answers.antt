use Rattle.std.proofs.Common.{ℕ, List, ◌++◌, Option, ap, ◌∙◌}
use Rattle.std.specs.List.{filter_map}
use Rattle.net_view.specs.declared.radio_ports.PortJoin.{PortJoin}
use Rattle.net_view.specs.RadioPorts.{as_joined}
use Rattle.load_parts.specs.Further.{further_device, further_port}
use Rattle.load_parts.proofs.FurtherLemmas.{mapped_first}
use Rattle.load_parts.proofs.names.further_names.Goals as goal

pub returns : goal.returns
returns c =
    let inputs = c.args.inputs.now in
    let joined : PortJoin → Option (List ℕ) = λ join. further_port inputs (as_joined join) in
    c.in_ok-add_ports.ensures
    ∙ ap (λ (front : List (List ℕ)). front ++ filter_map joined c.as_slice-2.result.now)
    (c.in_ok-add_devices.ensures ∙ ap (λ (none : List (List ℕ)). none ++ filter_map (further_device inputs.conf) c.as_slice.result.now) c.new-names.ensures.items ∙ ap (filter_map (further_device inputs.conf)) c.as_slice.ensures)
    ∙ ap (λ (back : List (List ℕ)). filter_map (further_device inputs.conf) inputs.devices ++ back)
    (ap (filter_map joined) c.as_slice-2.ensures.value ∙ mapped_first (further_port inputs) as_joined c.args.ports.now.joined.items ∙ ap (filter_map (further_port inputs)) c.requires.joined)
