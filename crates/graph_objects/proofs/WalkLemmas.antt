-- What walks down the links of names find.
use Rattle.std.proofs.Common.{arith, ℕ, ◌≡◌, ◌≤◌, ◌+◌, ◌-◌, List, Some, None, true, false, Bool, IfSome, IfNone, refl, sym, subst, ◌∙◌}
use Rattle.std.specs.Prelude.{◌↔◌, bytes_eq}
use Rattle.std.specs.FinSet as set
use Rattle.kern_model.specs.declared.object.LinkKind.{LinkKind}
use Rattle.kern_model.specs.declared.object.LinkKind.TheVariants.{Bridge, Vlan}
use Rattle.kern_model.specs.declared.object.Object.TheVariants as object
use Rattle.kern_model.specs.ObjectOrder.{Objects, Has}
use Rattle.kern_model.specs.Standing.{is_over, height}
use Rattle.kern_model.specs.Touched.{loses_link}
use Rattle.kern_model.proofs.TestLemmas.{false_of_not, bytes_same}
use Rattle.kern_model.proofs.StandingLemmas.{over_itself}
use Rattle.graph_objects.specs.Steady.{IsSteady}
use Rattle.graph_objects.specs.Links.{lower_name, IsVlanAt, HasNoVlan}
use Rattle.graph_objects.proofs.SteadyLemmas.{one_higher, lowest, over_by_lower, over_none_but, loses_link_here, stands_without_link, stands_on_bridge, loses_link_by_lower}

-- a link with a lower name is a VLAN
pub vlan_here : (objects : Objects) (name lower : List ℕ) (kind : LinkKind) → Some lower ≡ lower_name kind → Has objects (object.Link name kind) → IsVlanAt objects name lower
vlan_here objects name lower (Bridge mac filtering) is h = cc is
vlan_here objects name lower (Vlan l id mac) is h = let same : l ≡ lower = cc is in subst (IsVlanAt objects name) same (record { id = id; mac = mac; held = h })

pub lower_found : (objects : Objects) (name : List ℕ) (kind : LinkKind) → Has objects (object.Link name kind) → IfSome (lower_name kind) (IsVlanAt objects name)
lower_found objects name (Bridge mac filtering) h = tt
lower_found objects name (Vlan lower id mac) h = record { id = id; mac = mac; held = h }

pub over_same : (objects : Objects) (b : Bool) (base name : List ℕ) → (b ≡ true) ↔ (base ≡ name) → b ≡ true → true ≡ is_over objects base name
over_same objects b base name told is = sym (subst (λ n. is_over objects base n ≡ true) (told.0 is) (over_itself objects base))

module _ (objects : Objects) (steady : IsSteady objects) where
  pub no_lower_found : (name : List ℕ) (kind : LinkKind) → Has objects (object.Link name kind) → IfNone (lower_name kind) (HasNoVlan objects name)
  no_lower_found name (Bridge mac filtering) h = λ lower id m g. let one = steady.one (object.Link name (Bridge mac filtering)) (object.Link name (Vlan lower id m)) h g refl in cc one
  no_lower_found name (Vlan lower id mac) h = tt

  -- heights
  pub height_of_none : (name : List ℕ) → HasNoVlan objects name → 0 ≡ height objects name
  height_of_none name plain = sym (lowest objects steady name plain)

  pub height_of_more : (name lower : List ℕ) (steps r : ℕ) → IsVlanAt objects name lower → (height objects lower ≤ steps - 1 → r ≡ height objects lower) → height objects name ≤ steps → r + 1 ≡ height objects name
  height_of_more name lower steps r v below few =
      let up = one_higher objects steady name lower v.id v.mac v.held in
      let is = below (omega arith) in
      omega arith

  pub not_so_high : (name lower : List ℕ) → IsVlanAt objects name lower → height objects name ≤ 0 → ⊥
  not_so_high name lower v few = let up = one_higher objects steady name lower v.id v.mac v.held in omega arith

  pub lower_is_low : (name lower : List ℕ) (steps : ℕ) → IsVlanAt objects name lower → height objects name ≤ steps → height objects lower ≤ steps - 1
  lower_is_low name lower steps v few = let up = one_higher objects steady name lower v.id v.mac v.held in omega arith

  -- what a name is over
  apart_by : (b : Bool) (base name : List ℕ) → (b ≡ true) ↔ (base ≡ name) → b ≡ false → bytes_eq base name ≡ false
  apart_by b base name told is = false_of_not (bytes_eq base name) (λ h. let yes = told.1 (bytes_same base name h) in cc (yes, is))

  pub over_none_here : (b : Bool) (base name : List ℕ) → (b ≡ true) ↔ (base ≡ name) → b ≡ false → HasNoVlan objects name → false ≡ is_over objects base name
  over_none_here b base name told is plain = sym (over_none_but objects steady base name plain (apart_by b base name told is))

  pub over_by_more : (b : Bool) (base name lower : List ℕ) (steps : ℕ) (r : Bool) → (b ≡ true) ↔ (base ≡ name) → b ≡ false → IsVlanAt objects name lower → (height objects lower ≤ steps - 1 → r ≡ is_over objects base lower)
      → height objects name ≤ steps → r ≡ is_over objects base name
  over_by_more b base name lower steps r told is v below few =
      below (lower_is_low name lower steps v few) ∙ over_by_lower objects steady name lower v.id v.mac v.held base (apart_by b base name told is)

-- what loses its link
module _ (held wanted : Objects) (steady : IsSteady held) where
  pub loses_link_none : (name : List ℕ) → ((kind : LinkKind) → Has held (object.Link name kind) → ⊥) → false ≡ loses_link held wanted name
  loses_link_none name none = sym (stands_without_link held wanted steady name none)

  pub loses_link_unwanted : (name : List ℕ) (kind : LinkKind) (b : Bool) → Has held (object.Link name kind) → b ≡ set.contains wanted (object.Link name kind) → b ≡ false → true ≡ loses_link held wanted name
  loses_link_unwanted name kind b h told is = sym (loses_link_here held wanted steady name kind h (sym told ∙ is))

  pub loses_link_bridge : (name : List ℕ) (kind : LinkKind) (b : Bool) → None ≡ lower_name kind → Has held (object.Link name kind) → b ≡ set.contains wanted (object.Link name kind) → b ≡ true → false ≡ loses_link held wanted name
  loses_link_bridge name (Bridge mac filtering) b none h told is = sym (stands_on_bridge held wanted steady name mac filtering h (sym told ∙ is))
  loses_link_bridge name (Vlan lower id mac) b none h told is = cc none

  pub loses_link_by_more : (name lower : List ℕ) (kind : LinkKind) (b : Bool) (steps : ℕ) (r : Bool) → Some lower ≡ lower_name kind → Has held (object.Link name kind) → b ≡ set.contains wanted (object.Link name kind) → b ≡ true
      → (height held lower ≤ steps - 1 → r ≡ loses_link held wanted lower) → height held name ≤ steps → r ≡ loses_link held wanted name
  loses_link_by_more name lower (Bridge mac filtering) b steps r some h told is below few = cc some
  loses_link_by_more name lower (Vlan l id mac) b steps r some h told is below few =
      let same : l ≡ lower = cc some in
      let v : IsVlanAt held name lower = subst (IsVlanAt held name) same (record { id = id; mac = mac; held = h }) in
      let want : set.contains wanted (object.Link name (Vlan lower id mac)) ≡ true = subst (λ n. set.contains wanted (object.Link name (Vlan n id mac)) ≡ true) same (sym told ∙ is) in
      let had : Has held (object.Link name (Vlan lower id mac)) = subst (λ n. Has held (object.Link name (Vlan n id mac))) same h in
      below (lower_is_low held steady name lower steps v few) ∙ loses_link_by_lower held wanted steady name lower id mac had want
