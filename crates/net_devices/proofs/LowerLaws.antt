-- The lowers that are implied one under another are all listed, since each is shorter than its VLAN.
use Rattle.std.proofs.Common.{ℕ, zero, suc, ◌≡◌, ◌<◌, ◌≤◌, Bool, true, false, List, [], ◌∷◌, Option, Some, None, length, refl, ◌∙◌, ap, arith}
use Rattle.std.proofs.lemmas.Grind.{common_steps}
use Rattle.std.specs.Prelude.{◌==◌, if◌then◌else◌, IfSome}
use Rattle.kern_model.specs.Name.{is_name}
use Rattle.net_rows.specs.declared.dotted.VlanParts.{VlanParts}
use Rattle.net_rows.specs.Cut.{last_cut, cut_at_or_behind}
use Rattle.net_rows.specs.Dotted.{dot, id_of, parts_of, parts_at, vlan_parts}
use Rattle.net_devices.specs.declared.said.Said.{Said}
use Rattle.net_devices.specs.declared.said.DeviceSection.{DeviceSection}
use Rattle.net_devices.specs.declared.said.StatedKind.{StatedKind}
use Rattle.net_devices.specs.declared.said.StatedKind.TheVariants.{Untyped, Wrong, Bridge, Vlan}
use Rattle.net_devices.specs.declared.names.TheConstants.{MOST_LOWERS}
use Rattle.net_devices.specs.Names.{section_of, implied_by_kind, implied_by, implied, under, with_lowers, mentioned, lower_of}

-- what is in front of a cut is shorter than the whole
IsCutOf : ℕ → Option (List ℕ × List ℕ) → Type 0
IsCutOf n cut = IfSome cut (λ (c : List ℕ × List ℕ). length c.0 < n)

cut_here : (b : Bool) (others : List ℕ) (n : ℕ) → IfSome (if b then Some ([], others) else None) (λ (c : List ℕ × List ℕ). length c.0 < suc n)
cut_here true others n = omega arith
cut_here false others n = tt

cut_shorter : (byte : ℕ) (xs : List ℕ) → IfSome (last_cut byte xs) (λ (c : List ℕ × List ℕ). length c.0 < length xs)
cut_shorter byte [] = tt
cut_shorter byte (x ∷ xs) = go (last_cut byte xs) (cut_shorter byte xs)
  where
    go : (o : Option (List ℕ × List ℕ)) → IfSome o (λ (c : List ℕ × List ℕ). length c.0 < length xs) → IfSome (cut_at_or_behind byte x xs o) (λ (c : List ℕ × List ℕ). length c.0 < suc (length xs))
    go None h = cut_here (x == byte) xs (length xs)
    go (Some cut) h = omega (arith, h)

-- the lower is shorter than the name
IsShorter : ℕ → Option VlanParts → Type 0
IsShorter n parts = IfSome parts (λ (p : VlanParts). length p.lower < n)

with_id : (lower : List ℕ) (id : Option ℕ) (n : ℕ) → length lower < n → IfSome (parts_of (Some lower) id) (λ (p : VlanParts). length p.lower < n)
with_id lower None n h = tt
with_id lower (Some id) n h = h

with_name_of : (b : Bool) (front : List ℕ) (id : Option ℕ) (n : ℕ) → length front < n → IfSome (parts_of (if b then Some front else None) id) (λ (p : VlanParts). length p.lower < n)
with_name_of true front id n h = with_id front id n h
with_name_of false front id n h = tt

at_cut : (cut : Option (List ℕ × List ℕ)) (n : ℕ) → IfSome cut (λ (c : List ℕ × List ℕ). length c.0 < n) → IfSome (parts_at cut) (λ (p : VlanParts). length p.lower < n)
at_cut None n h = tt
at_cut (Some cut) n h = with_name_of (is_name cut.0) cut.0 (id_of cut.1) n h

parts_shorter : (name : List ℕ) → IfSome (vlan_parts name) (λ (p : VlanParts). length p.lower < length name)
parts_shorter name = at_cut (last_cut dot name) (length name) (cut_shorter dot name)

kind_shorter : (name : List ℕ) (kind : StatedKind) → IfSome (implied_by_kind name kind) (λ (p : VlanParts). length p.lower < length name)
kind_shorter name Untyped = parts_shorter name
kind_shorter name Wrong = tt
kind_shorter name (Bridge empty ports bad_ports) = tt
kind_shorter name (Vlan lower id) = tt

section_shorter : (name : List ℕ) (section : Option DeviceSection) → IfSome (implied_by name section) (λ (p : VlanParts). length p.lower < length name)
section_shorter name None = parts_shorter name
section_shorter name (Some section) = kind_shorter name section.kind

implied_shorter : (said : List Said) (name : List ℕ) → IfSome (implied said name) (λ (p : VlanParts). length p.lower < length name)
implied_shorter said name = section_shorter name (section_of said name)

-- looking one further down lists no more, where there is room for the whole name
none_left : (f g : List ℕ → List (List ℕ)) (parts : Option VlanParts) → IfSome parts (λ (p : VlanParts). length p.lower < 0) → [] ≡ under g parts
none_left f g None h = refl
none_left f g (Some parts) h = absurd (let a : length parts.lower < 0 = h in omega (arith, a))

same_under : (said : List Said) (more : ℕ) (parts : Option VlanParts) → ((lower : List ℕ) → length lower ≤ more → with_lowers said more lower ≡ with_lowers said (suc more) lower) → IfSome parts (λ (p : VlanParts). length p.lower ≤ more)
    → under (with_lowers said more) parts ≡ under (with_lowers said (suc more)) parts
same_under said more None h k = refl
same_under said more (Some parts) h k = h parts.lower k

weaker : (parts : Option VlanParts) (n more : ℕ) → n ≤ suc more → IfSome parts (λ (p : VlanParts). length p.lower < n) → IfSome parts (λ (p : VlanParts). length p.lower ≤ more)
weaker None n more h k = tt
weaker (Some parts) n more h k = let a : length parts.lower < n = k in omega (arith, a, h)

no_room : (parts : Option VlanParts) (n : ℕ) → n ≤ 0 → IfSome parts (λ (p : VlanParts). length p.lower < n) → IfSome parts (λ (p : VlanParts). length p.lower < 0)
no_room None n h k = tt
no_room (Some parts) n h k = let a : length parts.lower < n = k in omega (arith, a, h)

stable : (said : List Said) (more : ℕ) (name : List ℕ) → length name ≤ more → with_lowers said more name ≡ with_lowers said (suc more) name
stable said zero name h = ap (λ (z : List (List ℕ)). name ∷ z) (none_left (with_lowers said 0) (with_lowers said 0) (implied said name) (no_room (implied said name) (length name) h (implied_shorter said name)))
stable said (suc more) name h = ap (λ (z : List (List ℕ)). name ∷ z) (same_under said more (implied said name) (stable said more) (weaker (implied said name) (length name) more h (implied_shorter said name)))

under_is : (said : List Said) (parts : Option VlanParts) → under (with_lowers said MOST_LOWERS) parts ≡ lower_of said parts
under_is said None = refl
under_is said (Some parts) = refl

short : (name : List ℕ) → is_name name ≡ true → length name ≤ 15
short name is = grind (arith, common_steps, is)

pub all_listed : (said : List Said) (name : List ℕ) → is_name name ≡ true → mentioned said name ≡ name ∷ lower_of said (implied said name)
all_listed said name is = stable said MOST_LOWERS name (short name is) ∙ ap (λ (z : List (List ℕ)). name ∷ z) (under_is said (implied said name))
