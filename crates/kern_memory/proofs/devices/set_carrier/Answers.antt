use Rattle.std.proofs.Common.{◌≡◌, bytes_eq, Option, Some, None, is_some, ap, sym, ◌∙◌}
use Rattle.std.specs.FinMap as map
use Rattle.std.specs.Map.{lookup}
use Rattle.std.specs.Option.{option_map_or, option_copied_mut}
use Rattle.kern_model.specs.declared.object.Device.{Device}
use Rattle.kern_model.specs.Kernel.{map_of, with_carrier}
use Rattle.kern_memory.proofs.DeviceLemmas.{looked, with_device}
use Rattle.kern_memory.proofs.devices.set_carrier.Goals as goal

pub returns-in-Some-clause-told : goal.returns-in-Some-clause-told
returns-in-Some-clause-told c =
    let es = c.args.devices.now.entries in
    let name = c.args.name.now in
    let set = with_carrier c.args.on c.in-Some.device.now in
    let had : lookup (bytes_eq name) es ≡ Some c.in-Some.device.now = sym c.in-Some.ensures.value in
    let written = ((c.get_mut.follows.holds set).3 (ap is_some had)).0 in
    with_device es (c.get_mut.follows.lender set).entries name set written
    ∙ sym (ap (λ (d : Option Device). option_map_or (λ device. map.insert (map_of es) name (with_carrier c.args.on device)) d (map_of es)) (looked es name ∙ had))

pub returns-in_default-clause-told : goal.returns-in_default-clause-told
returns-in_default-clause-told c =
    let es = c.args.devices.now.entries in
    let name = c.args.name.now in
    let none : lookup (bytes_eq name) es ≡ None = sym c.get_mut.ensures.value ∙ ap option_copied_mut c.in_default.is in
    ap (λ m. map_of m.entries) c.get_mut.follows.holds-at-none
    ∙ sym (ap (λ (d : Option Device). option_map_or (λ device. map.insert (map_of es) name (with_carrier c.args.on device)) d (map_of es)) (looked es name ∙ none))
