-- A graph has the devices of its network.
use Rattle.std.proofs.Common.{◌≡◌, ◌≢◌, ℕ, List, [], ◌∷◌, Option, Some, None, refl, ap, sym, ◌∙◌}
use Rattle.std.specs.List.{filter_map}
use Rattle.std.specs.Option.{option_map, option_and_then}
use Rattle.std.specs.Ordering.{nat_cmp}
use Rattle.std.specs.Cmp.Lexicographic.{slice_cmp, nat_list_cmp_total}
use Rattle.std.specs.FinMap.{IsAntisymmetric, nat_cmp-IsAntisymmetric, slice_cmp-IsAntisymmetric}
use Rattle.std.specs.FinMap as map
use Rattle.plane_words.specs.Distinct.{AreDistinct}
use Rattle.kern_model.specs.declared.object.Device.{Device}
use Rattle.kern_model.proofs.MemberLemmas.{member_of_all}
use Rattle.net_rules.specs.declared.inputs.Inputs.{Inputs}
use Rattle.net_rules.specs.Inputs.{facts_of}
use Rattle.net_rules.specs.Moment.{devices_of}
use Rattle.net_rules.proofs.OnceLemmas.{AreOnce, found_given}
use Rattle.net_rules.proofs.MomentLemmas.{device_of_map}
use Rattle.graph_rules.specs.State.{Named, Known, named_in, name_list, names_in, devices_in}
use Rattle.graph_laws.specs.Below.{AgreesBelow}
use Rattle.graph_laws.proofs.BelowLemmas.{no_device}

once_of_distinct : (names : List Named) → AreDistinct (name_list names) → AreOnce (λ (n : Named). n.name) names
once_of_distinct [] once = tt
once_of_distinct (n ∷ ns) once = (
  no_device ns n.name (λ h. member_of_all (λ (q : List ℕ). q ≢ n.name) (name_list ns) n.name once.0 h refl),
  once_of_distinct ns once.1,
)

abbrev with_name : Named → Option (List ℕ × Device)
with_name n = option_map (λ d. (n.name, d)) n.device

named_by : (name : List ℕ) (device : Option Device) (e : List ℕ × Device) → option_map (λ d. (name, d)) device ≡ Some e → e.0 ≡ name
named_by name None e h = cc h
named_by name (Some d) e h = let same : (name, d) ≡ e = cc h in sym (ap (λ (x : List ℕ × Device). x.0) same)

its_device : (n : Named) (device : Option Device) → option_map (λ (e : List ℕ × Device). e.1) (option_map (λ d. (n.name, d)) device) ≡ device
its_device n None = refl
its_device n (Some d) = refl

found_device : (found : Option Named) → option_map (λ (e : List ℕ × Device). e.1) (option_and_then with_name found) ≡ option_and_then (λ (n : Named). n.device) found
found_device None = refl
found_device (Some n) = its_device n n.device

devices_apart : IsAntisymmetric (slice_cmp nat_cmp)
devices_apart = slice_cmp-IsAntisymmetric nat_cmp-IsAntisymmetric

pub same_devices : (inputs : Inputs) (s : Known) → AgreesBelow (facts_of inputs) s → AreDistinct (names_in s) → devices_in s ≡ devices_of inputs
same_devices inputs s agrees once = map.same_map nat_list_cmp_total devices_apart (devices_in s) (devices_of inputs) (λ name.
    sym (device_of_map (filter_map with_name s.names) name)
    ∙ ap (option_map (λ (e : List ℕ × Device). e.1)) (found_given (λ (n : Named). n.name) (λ (e : List ℕ × Device). e.0) with_name (λ n e. named_by n.name n.device e) s.names (once_of_distinct s.names once) name)
    ∙ found_device (named_in s.names name)
    ∙ agrees.devices name
    ∙ device_of_map inputs.devices name)
