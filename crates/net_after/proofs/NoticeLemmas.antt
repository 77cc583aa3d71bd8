-- Notices, part after part.
use Rattle.std.proofs.Common.{◌≡◌, ℕ, suc, List, [], ◌∷◌, ◌++◌, map, cond, Option, Some, refl, sym, ap, ◌∙◌, append_assoc}
use Rattle.std.specs.Prelude.{filter, not, nat_le, bytes_eq, ◌==◌}
use Rattle.std.specs.List.{list_any, position}
use Rattle.std.specs.Option.{option_map}
use Rattle.std.specs.Ordering.{nat_cmp}
use Rattle.plane_words.specs.InOrder.{ordered}
use Rattle.uci_tree.proofs.FoldLemmas.{position-cons}
use Rattle.net_rules.specs.declared.inputs.Inputs.{Inputs}
use Rattle.net_rules.specs.declared.inputs.OpenInterface.{OpenInterface}
use Rattle.net_rules.specs.declared.inputs.OpenRadio.{OpenRadio}
use Rattle.net_rules.specs.declared.event.Notice.{Notice}
use Rattle.net_rules.specs.declared.event.Notice.TheVariants as notice
use Rattle.net_rules.specs.Notices.{numbers_of, interface_notice, radio_notice, notices_between}
use Rattle.net_view.specs.Places.{place_of}

-- the place of a name among the names is that of its row
pub row_place : {X : Type 0} (key : X → List ℕ) → (xs : List X) (name : List ℕ) → place_of (map key xs) name ≡ position (λ x. bytes_eq (key x) name) xs
row_place key [] name = refl
row_place key (x ∷ xs) name =
    position-cons (λ other. bytes_eq other name) (key x) (map key xs)
    ∙ ap (λ (p : Option ℕ). cond {A = Option ℕ} (bytes_eq (key x) name) (Some 0) (option_map (λ k. suc k) p)) (row_place key xs name)
    ∙ sym (position-cons (λ y. bytes_eq (key y) name) x xs)

-- the numbers that are lost
abbrev pub lost_of : List ℕ → List ℕ → List ℕ
lost_of current numbers = filter (λ n. not (list_any (λ m. m == n) current)) numbers

-- the three parts, one behind another
pub told : (before now : Inputs) (numbers : List ℕ) (next : ℕ) (interfaces : List OpenInterface) (radios : List OpenRadio) (one two three : List Notice) → numbers ≡ numbers_of before → next ≡ before.next → interfaces ≡ now.interfaces
    → radios ≡ now.radios → one ≡ map notice.Dropped (ordered nat_cmp (lost_of (numbers_of now) numbers)) → two ≡ one ++ map (interface_notice now.conf) (filter (λ o. nat_le next o.number) interfaces) → three ≡ two
    ++ map (radio_notice now.conf) (filter (λ o. nat_le next o.number) radios) → three ≡ notices_between before now
told before now numbers next interfaces radios one two three same_numbers same_next same_interfaces same_radios first second third =
    let a : List Notice = map notice.Dropped (ordered nat_cmp (lost_of (numbers_of now) numbers)) in
    let b : List Notice = map (interface_notice now.conf) (filter (λ o. nat_le next o.number) interfaces) in
    let c : List Notice = map (radio_notice now.conf) (filter (λ o. nat_le next o.number) radios) in
    let gone_on : two ≡ a ++ b = second ∙ ap (λ (z : List Notice). z ++ b) first in
    third
    ∙ ap (λ (z : List Notice). z ++ c) gone_on
    ∙ append_assoc a b c
    ∙ (λ i. map notice.Dropped (ordered nat_cmp (lost_of (numbers_of now) (same_numbers i)))
    ++ (map (interface_notice now.conf) (filter (λ o. nat_le (same_next i) o.number) (same_interfaces i))
    ++ map (radio_notice now.conf) (filter (λ o. nat_le (same_next i) o.number) (same_radios i))))
