-- The maps of sections and of bridges, with one section more.
use Rattle.std.proofs.Common.{ℕ, suc, ◌≡◌, Bool, true, false, cond, List, [], ◌∷◌, ◌++◌, length, Option, Some, None, bytes_eq, position, is_some, refl, sym, ap, ◌∙◌}
use Rattle.std.specs.Prelude.{◌||◌}
use Rattle.std.specs.Option.{option_map}
use Rattle.std.specs.Ordering.{nat_cmp}
use Rattle.std.specs.Cmp.Lexicographic.{slice_cmp}
use Rattle.std.specs.BTreeMap.{BTreeMap, get, is_at}
use Rattle.std.proofs.lemmas.Slice.Eq.{bytes_eq-Decides}
use Rattle.uci_tree.specs.Index.{first_place}
use Rattle.uci_tree.proofs.FoldLemmas.{position-cons}
use Rattle.uci_tree.proofs.SectionLemmas.{position-push}
use Rattle.net_rows.specs.declared.stated.Stated.{Stated}
use Rattle.net_rows.specs.declared.stated.Stated.TheVariants.{Absent, Unread, Read}
use Rattle.net_devices.specs.declared.said.DeviceSection.{DeviceSection}
use Rattle.net_devices.specs.declared.said.Said.{Said}
use Rattle.net_devices.specs.declared.said.Said.TheVariants.{Device, Interface}
use Rattle.net_devices.specs.EachOnce.{has}
use Rattle.net_devices.specs.Names.{section_of, is_read}
use Rattle.net_devices.specs.Kinds.{if_read, is_name, owner_in, owner_or, owner}
use Rattle.net_devices.specs.Found.{is_of, section_at, HasPlaces, HasPlaceToo, HasOwners, HasPortsToo}
use Rattle.net_devices.proofs.KeyLemmas.{name_key}

-- the section at the first place of a name is the section of the name
behind : (saying : Said) (said : List Said) (place : Option ℕ) → section_at (saying ∷ said) (option_map (λ k. suc k) place) ≡ section_at said place
behind saying said None = refl
behind saying said (Some place) = refl

at_front : (b : Bool) (section : DeviceSection) (said : List Said) (place : Option ℕ) (rest : Option DeviceSection) → section_at said place ≡ rest
    → section_at (Device section ∷ said) (cond {A = Option ℕ} b (Some 0) (option_map (λ k. suc k) place)) ≡ cond {A = Option DeviceSection} b (Some section) rest
at_front true section said place rest h = refl
at_front false section said place rest h = behind (Device section) said place ∙ h

same_test : (stated : Stated (List ℕ)) (name : List ℕ) → is_name name (if_read stated) ≡ is_read name stated
same_test Absent name = refl
same_test Unread name = refl
same_test (Read other) name = refl

pub section_found : (said : List Said) (name : List ℕ) → section_at said (position (is_of name) said) ≡ section_of said name
section_found [] name = refl
section_found (Device section ∷ said) name = ap (section_at (Device section ∷ said)) (position-cons (is_of name) (Device section) said)
    ∙ at_front (is_of name (Device section)) section said (position (is_of name) said) (section_of said name) (section_found said name)
    ∙ ap (λ (z : Bool). cond {A = Option DeviceSection} z (Some section) (section_of said name)) (same_test section.name name)
section_found (Interface device ∷ said) name = ap (section_at (Interface device ∷ said)) (position-cons (is_of name) (Interface device) said) ∙ behind (Interface device) said (position (is_of name) said) ∙ section_found said name

-- one section more
pub places_more : (old new : BTreeMap (List ℕ) ℕ) (said : List Said) (saying : Said) (place : ℕ) → place ≡ length said → HasPlaces old said → HasPlaceToo old new saying place → HasPlaces new (said ++ saying ∷ [])
places_more old new said saying place e h k name =
    k name
    ∙ ap (λ (z : Option ℕ). first_place z (cond {A = Option ℕ} (is_of name saying) (Some place) None)) (h name)
    ∙ ap (λ (z : ℕ). first_place (position (is_of name) said) (cond {A = Option ℕ} (is_of name saying) (Some z) None)) e
    ∙ sym (position-push (is_of name) said saying)

or_more : (a b c : Option (List ℕ)) → owner_or (owner_or a b) c ≡ owner_or a (owner_or b c)
or_more None b c = refl
or_more (Some x) b c = refl

or_none : (a : Option (List ℕ)) → owner_or a None ≡ a
or_none None = refl
or_none (Some x) = refl

owner_push : (said : List Said) (saying : Said) (port : List ℕ) → owner (said ++ saying ∷ []) port ≡ owner_or (owner said port) (owner_in port saying)
owner_push [] saying port = or_none (owner_in port saying)
owner_push (other ∷ said) saying port = ap (owner_or (owner_in port other)) (owner_push said saying port) ∙ sym (or_more (owner_in port other) (owner said port) (owner_in port saying))

pub owners_more : (old new : BTreeMap (List ℕ) (List ℕ)) (said : List Said) (saying : Said) → HasOwners old said → ((port : List ℕ) → get (slice_cmp nat_cmp) new port ≡ owner_or (get (slice_cmp nat_cmp) old port) (owner_in port saying))
    → HasOwners new (said ++ saying ∷ [])
owners_more old new said saying h k port = k port ∙ ap (λ (z : Option (List ℕ)). owner_or z (owner_in port saying)) (h port) ∙ sym (owner_push said saying port)

-- one port more
has_push : (ports : List (List ℕ)) (port other : List ℕ) → has (ports ++ port ∷ []) other ≡ (has ports other || bytes_eq port other)
has_push [] port other = or_false (bytes_eq port other)
  where
    or_false : (b : Bool) → (b || false) ≡ b
    or_false true = refl
    or_false false = refl
has_push (x ∷ ports) port other = ap (λ (z : Bool). bytes_eq x other || z) (has_push ports port other) ∙ or_or (bytes_eq x other) (has ports other) (bytes_eq port other)
  where
    or_or : (a b c : Bool) → (a || (b || c)) ≡ ((a || b) || c)
    or_or true b c = refl
    or_or false b c = refl

either_port : (old : Option (List ℕ)) (bridge : List ℕ) (a b : Bool) → owner_or (owner_or old (cond {A = Option (List ℕ)} a (Some bridge) None)) (cond {A = Option (List ℕ)} (b || false) (Some bridge) None)
    ≡ owner_or old (cond {A = Option (List ℕ)} (a || b) (Some bridge) None)
either_port (Some x) bridge a b = refl
either_port None bridge true b = refl
either_port None bridge false true = refl
either_port None bridge false false = refl

pub ports_more : (first old new : BTreeMap (List ℕ) (List ℕ)) (bridge : List ℕ) (ports : List (List ℕ)) (port : List ℕ) → HasPortsToo first old bridge ports → HasPortsToo old new bridge (port ∷ [])
    → HasPortsToo first new bridge (ports ++ port ∷ [])
ports_more first old new bridge ports port h k other =
    k other
    ∙ ap (λ (z : Option (List ℕ)). owner_or z (cond {A = Option (List ℕ)} (bytes_eq port other || false) (Some bridge) None)) (h other)
    ∙ either_port (get (slice_cmp nat_cmp) first other) bridge (has ports other) (bytes_eq port other)
    ∙ ap (λ (z : Bool). owner_or (get (slice_cmp nat_cmp) first other) (cond {A = Option (List ℕ)} z (Some bridge) None)) (sym (has_push ports port other))

-- a port that has a bridge keeps it, and one that has none gets this one
kept_or : (was : Option (List ℕ)) (bridge : List ℕ) (b : Bool) → (b ≡ true → is_some was ≡ true) → was ≡ owner_or was (cond {A = Option (List ℕ)} (b || false) (Some bridge) None)
kept_or (Some x) bridge b h = refl
kept_or None bridge true h = absurd (let k : false ≡ true = h refl in cc)
kept_or None bridge false h = refl

pub port_kept : (owners : BTreeMap (List ℕ) (List ℕ)) (bridge port : List ℕ) → is_some (get (slice_cmp nat_cmp) owners port) ≡ true → HasPortsToo owners owners bridge (port ∷ [])
port_kept owners bridge port there other = kept_or (get (slice_cmp nat_cmp) owners other) bridge (bytes_eq port other)
    (λ (e : bytes_eq port other ≡ true). ap (λ (z : List ℕ). is_some (get (slice_cmp nat_cmp) owners z)) (sym ((bytes_eq-Decides port other).0 e)) ∙ there)

put_or : (was : Option (List ℕ)) (bridge : List ℕ) (b : Bool) → (b ≡ true → was ≡ None) → cond {A = Option (List ℕ)} b (Some bridge) was ≡ owner_or was (cond {A = Option (List ℕ)} (b || false) (Some bridge) None)
put_or was bridge true h = sym (ap (λ (z : Option (List ℕ)). owner_or z (Some bridge)) (h refl))
put_or None bridge false h = refl
put_or (Some x) bridge false h = refl

absent_from : (was : Option (List ℕ)) → is_some was ≡ false → was ≡ None
absent_from None h = refl
absent_from (Some x) h = absurd (let k : true ≡ false = h in cc)

pub port_put : (old new : BTreeMap (List ℕ) (List ℕ)) (bridge port : List ℕ) → is_some (get (slice_cmp nat_cmp) old port) ≡ false
    → ((q : List ℕ) → get (slice_cmp nat_cmp) new q ≡ cond {A = Option (List ℕ)} (is_at (slice_cmp nat_cmp port) q) (Some bridge) (get (slice_cmp nat_cmp) old q)) → HasPortsToo old new bridge (port ∷ [])
port_put old new bridge port absent put other =
    put other
    ∙ ap (λ (z : Bool). cond {A = Option (List ℕ)} z (Some bridge) (get (slice_cmp nat_cmp) old other)) (name_key port other)
    ∙ put_or (get (slice_cmp nat_cmp) old other) bridge (bytes_eq port other)
    (λ (e : bytes_eq port other ≡ true). ap (λ (z : List ℕ). get (slice_cmp nat_cmp) old z) (sym ((bytes_eq-Decides port other).0 e)) ∙ absent_from (get (slice_cmp nat_cmp) old port) absent)
