use Rattle.std.proofs.Common.{◌∷◌, [], ◌++◌, map, ap, sym, ◌∙◌}
use Rattle.net_rules.specs.After.{devices_after}
use Rattle.known_inputs.specs.Steps.{name_of, place_of}
use Rattle.known_inputs.proofs.DeviceLemmas.{left_place, carrier_place}
use Rattle.known_inputs.proofs.devices.change.Goals as goal

pub returns-in-Add-clause-items : goal.returns-in-Add-clause-items
returns-in-Add-clause-items c =
    let es = c.args.devices.now.items in
    let at = c.requires.place ∙ ap (λ what. place_of (map (λ e. e.0) es) (name_of what)) c.in-Add.is in
    c.push_reserved.ensures.items
    ∙ ap (λ xs. xs ++ (c.in-Add.name, record { carrier = c.in-Add.carrier; mtu = c.in-Add.mtu; mac = c.in-Add.mac }) ∷ []) (c.leave.ensures.items ∙ left_place es c.in-Add.name c.requires.once c.args.place at)
    ∙ sym (ap (devices_after es) c.in-Add.is)

pub returns-in-Remove-clause-items : goal.returns-in-Remove-clause-items
returns-in-Remove-clause-items c =
    let es = c.args.devices.now.items in
    let at = c.requires.place ∙ ap (λ what. place_of (map (λ e. e.0) es) (name_of what)) c.in-Remove.is in
    c.leave-in-Remove.ensures.items ∙ left_place es c.in-Remove.name c.requires.once c.args.place at ∙ sym (ap (devices_after es) c.in-Remove.is)

pub returns-in-Carrier-clause-items : goal.returns-in-Carrier-clause-items
returns-in-Carrier-clause-items c =
    let es = c.args.devices.now.items in
    let at = c.requires.place ∙ ap (λ what. place_of (map (λ e. e.0) es) (name_of what)) c.in-Carrier.is in
    c.set_carrier.ensures.items ∙ carrier_place es c.in-Carrier.name c.requires.once c.in-Carrier.on c.args.place at ∙ sym (ap (devices_after es) c.in-Carrier.is)
