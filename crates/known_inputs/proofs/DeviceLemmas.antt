-- The list of devices as it changes at a place.
use Rattle.std.proofs.Common.{ℕ, ◌≡◌, List, map, slice_set, Bool, true, false, cond, Option, Some, None, ap, sym, ◌∙◌}
use Rattle.std.specs.Prelude.{bytes_eq}
use Rattle.std.specs.Option.{option_map_or}
use Rattle.plane_words.specs.Distinct.{AreDistinct}
use Rattle.kern_model.specs.declared.object.Device.{Device}
use Rattle.kern_model.specs.Kernel.{with_carrier}
use Rattle.kern_model.proofs.TestLemmas.{bytes_same}
use Rattle.net_rules.specs.After.{without_device, carrier_set}
use Rattle.known_inputs.specs.Steps.{place_of}
use Rattle.known_inputs.specs.Places.{NonePass, OnlyAt, without_place, carrier_at}
use Rattle.known_inputs.proofs.PlaceLemmas.{none_left_out, none_changed, only_left_out, only_changed, only_of_place, none_of_place, only_there}

module _ (es : List (List ℕ × Device)) (name : List ℕ) (distinct : AreDistinct (map (λ e. e.0) es)) where
  abbrev is_named : List ℕ × Device → Bool
  is_named e = bytes_eq e.0 name

  same_name : (a b : List ℕ) → bytes_eq a name ≡ true → bytes_eq b name ≡ true → a ≡ b
  same_name a b p q = bytes_same a name p ∙ sym (bytes_same b name q)

  only : (k : ℕ) → Some k ≡ place_of (map (λ e. e.0) es) name → OnlyAt is_named es k
  only k at = only_of_place (λ (e : List ℕ × Device). e.0) (λ other. bytes_eq other name) same_name es k distinct at

  none : None ≡ place_of (map (λ e. e.0) es) name → NonePass is_named es
  none at = none_of_place (λ (e : List ℕ × Device). e.0) (λ other. bytes_eq other name) same_name es at

  pub left_place : (place : Option ℕ) → place ≡ place_of (map (λ e. e.0) es) name → without_place es place ≡ without_device name es
  left_place None at = sym (none_left_out is_named es (none at))
  left_place (Some k) at = sym (only_left_out is_named es k (only k at))

  module _ (on : Bool) where
    others_stay : (e : List ℕ × Device) → is_named e ≡ false → carrier_set name on e ≡ e
    others_stay e other = ap (λ b. cond b (e.0, with_carrier on e.1) e) other

    pub carrier_place : (place : Option ℕ) → place ≡ place_of (map (λ e. e.0) es) name → carrier_at on es place ≡ map (carrier_set name on) es
    carrier_place None at = sym (none_changed is_named (carrier_set name on) others_stay es (none at))
    carrier_place (Some k) at =
        let there = only_there is_named es k (only k at) in
        let e : List ℕ × Device = there.0 in
        ap (λ (found : Option (List ℕ × Device)). option_map_or (λ (x : List ℕ × Device). slice_set es k (x.0, with_carrier on x.1)) found es) there.1
        ∙ ap (slice_set es k) (sym (ap (λ b. cond b (e.0, with_carrier on e.1) e) there.2))
        ∙ sym (only_changed is_named (carrier_set name on) others_stay es k e (only k at) there.1)
