-- In a set that has one object of a key and no VLAN under itself: heights, what loses its link, and what a name is over, by
-- the link of the name.
use Rattle.std.proofs.Common.{ℕ, ◌≡◌, ◌+◌, inl, inr, List, Option, true, false, Bool, cond, refl, ap, sym, subst, ◌∙◌}
use Rattle.std.specs.Prelude.{bytes_eq}
use Rattle.std.specs.FinSet as set
use Rattle.kern_model.specs.declared.object.Mac.{Mac}
use Rattle.kern_model.specs.declared.object.LinkKind.{LinkKind}
use Rattle.kern_model.specs.declared.object.LinkKind.TheVariants.{Bridge, Vlan}
use Rattle.kern_model.specs.declared.object.Object.{Object}
use Rattle.kern_model.specs.declared.object.Object.TheVariants as object
use Rattle.kern_model.specs.ObjectOrder.{Objects, Has, object_cmp}
use Rattle.kern_model.specs.Standing.{is_over, is_vlan_under, height}
use Rattle.kern_model.specs.Touched.{loses_link}
use Rattle.kern_model.proofs.OrderLemmas.{objects_total}
use Rattle.kern_model.proofs.TestLemmas.{true_of_both_ways, false_of_not, same_bytes}
use Rattle.kern_model.proofs.SetLemmas.{has_itself, has_before, new_or_before, has_retained, of_retained, same_members, none_in_empty}
use Rattle.kern_model.proofs.StandingLemmas.{over_itself, over_lower, over_on, over_cases, still_under, is_under}
use Rattle.kern_model.proofs.GoneLemmas.{over_more}
use Rattle.kern_model.proofs.TouchLemmas.{loses_link_of, loses_link_with, loses_link_above}
use Rattle.graph_objects.specs.Steady.{IsGrounded, IsSteady}

pub grounded_within : (s t : Objects) → ((x : Object) → Has s x → Has t x) → IsGrounded t → IsGrounded s
grounded_within s t within grounded name lower id mac h over = grounded name lower id mac (within (object.Link name (Vlan lower id mac)) h) (over_more s t within name lower over)

pub steady_within : (s t : Objects) → ((x : Object) → Has s x → Has t x) → IsSteady t → IsSteady s
steady_within s t within steady = record {
  one = λ a b h g same. steady.one a b (within a h) (within b g) same;
  grounded = grounded_within s t within steady.grounded;
}

module _ (objects : Objects) (steady : IsSteady objects) where
  pub one_link : (name : List ℕ) (kind other : LinkKind) → Has objects (object.Link name kind) → Has objects (object.Link name other) → object.Link name kind ≡ object.Link name other
  one_link name kind other h g = steady.one (object.Link name kind) (object.Link name other) h g refl

  module _ (name lower : List ℕ) (id : ℕ) (mac : Option Mac) (held : Has objects (object.Link name (Vlan lower id mac))) where
    -- what is under a VLAN is under its lower name, or is the VLAN
    under_lower : (x : Object) → Has objects x → is_vlan_under objects name x ≡ true → Has (set.insert (set.retain objects (is_vlan_under objects lower)) (object.Link name (Vlan lower id mac))) x
    under_lower (object.Link vlan (Vlan l i m)) had over =
        let s = set.retain objects (is_vlan_under objects lower) in
        let x = object.Link vlan (Vlan l i m) in
        elim (over_cases objects vlan name over) as (λ _. Has (set.insert s (object.Link name (Vlan lower id mac))) x) [
          | inl same ↦
              let named : Has objects (object.Link name (Vlan l i m)) = subst (λ n. Has objects (object.Link n (Vlan l i m))) same had in
              let one = one_link name (Vlan l i m) (Vlan lower id mac) named held in
              subst (Has (set.insert s (object.Link name (Vlan lower id mac)))) (sym (cc (same, one))) (has_itself s (object.Link name (Vlan lower id mac)))
          | inr v ↦
              let one = one_link name (Vlan v.lower v.id v.mac) (Vlan lower id mac) v.held held in
              let same : v.lower ≡ lower = cc one in
              has_before s (object.Link name (Vlan lower id mac)) x (is_under objects lower vlan l i m had (subst (λ n. is_over objects vlan n ≡ true) same v.over))
        ]
    under_lower x had over = cc over

    pub one_higher : height objects name ≡ height objects lower + 1
    one_higher =
        let s = set.retain objects (is_vlan_under objects lower) in
        let t = set.retain objects (is_vlan_under objects name) in
        let o = object.Link name (Vlan lower id mac) in
        let up = over_lower objects name lower id mac held in
        let new : set.contains s o ≡ _ = false_of_not (set.contains s o) (λ h. steady.grounded name lower id mac held (of_retained objects (is_vlan_under objects lower) o h).1) in
        let same : t ≡ set.insert s o = same_members t (set.insert s o)
        (λ x h. let was = of_retained objects (is_vlan_under objects name) x h in under_lower x was.0 was.1)
        (λ x h. elim (new_or_before s o x h) as (λ _. Has t x) [
          | inl is ↦ subst (Has t) (sym is) (is_under objects name name lower id mac held (over_itself objects name))
          | inr before ↦ let was = of_retained objects (is_vlan_under objects lower) x before in has_retained objects (is_vlan_under objects name) x was.0 (still_under objects lower name x up was.1)
        ]) in
        ap set.len same ∙ set.len-insert objects_total s o ∙ ap (λ b. cond b (set.len s) (set.len s + 1)) new

    -- a VLAN is over what its lower name is over, and over itself
    pub over_by_lower : (base : List ℕ) → bytes_eq base name ≡ false → is_over objects base lower ≡ is_over objects base name
    over_by_lower base apart = true_of_both_ways (is_over objects base lower) (is_over objects base name)
        (λ h. over_on objects base lower name h (over_lower objects name lower id mac held))
        (λ h. elim (over_cases objects base name h) as (λ _. is_over objects base lower ≡ true) [
          | inl same ↦ let equal = same_bytes base name same in absurd (cc (equal, apart))
          | inr v ↦
              let one = one_link name (Vlan v.lower v.id v.mac) (Vlan lower id mac) v.held held in
              let below : v.lower ≡ lower = cc one in
              subst (λ n. is_over objects base n ≡ true) below v.over
        ])

  -- a name that is no VLAN is over none
  pub lowest : (name : List ℕ) → ((lower : List ℕ) (id : ℕ) (mac : Option Mac) → Has objects (object.Link name (Vlan lower id mac)) → ⊥) → height objects name ≡ 0
  lowest name plain =
      let t = set.retain objects (is_vlan_under objects name) in
      let none : t ≡ set.empty = same_members t set.empty (λ x h. let was = of_retained objects (is_vlan_under objects name) x h in absurd (over_none x was.0 was.1)) (λ x h. absurd (none_in_empty x h)) in
      ap set.len none ∙ set.len-empty object_cmp
    where
      over_none : (x : Object) → Has objects x → is_vlan_under objects name x ≡ true → ⊥
      over_none (object.Link vlan (Vlan l i m)) had over = elim (over_cases objects vlan name over) as (λ _. ⊥) [
        | inl same ↦ plain l i m (subst (λ n. Has objects (object.Link n (Vlan l i m))) same had)
        | inr v ↦ plain v.lower v.id v.mac v.held
      ]
      over_none x had over = cc over

  pub over_none_but : (base name : List ℕ) → ((lower : List ℕ) (id : ℕ) (mac : Option Mac) → Has objects (object.Link name (Vlan lower id mac)) → ⊥) → bytes_eq base name ≡ false → is_over objects base name ≡ false
  over_none_but base name plain apart = false_of_not (is_over objects base name) (λ h. elim (over_cases objects base name h) as (λ _. ⊥) [
    | inl same ↦ let equal = same_bytes base name same in cc (equal, apart)
    | inr v ↦ plain v.lower v.id v.mac v.held
  ])

  pub not_vlan : (name : List ℕ) (mac : Option Mac) (filtering : Bool) → Has objects (object.Link name (Bridge mac filtering)) → (lower : List ℕ) (id : ℕ) (m : Option Mac) → Has objects (object.Link name (Vlan lower id m)) → ⊥
  not_vlan name mac filtering h lower id m g = let one = one_link name (Bridge mac filtering) (Vlan lower id m) h g in cc one

module _ (held wanted : Objects) (steady : IsSteady held) where
  pub loses_link_here : (name : List ℕ) (kind : LinkKind) → Has held (object.Link name kind) → set.contains wanted (object.Link name kind) ≡ false → loses_link held wanted name ≡ true
  loses_link_here name kind h unwanted = loses_link_of held wanted name name kind h (λ is. cc (is, unwanted)) (over_itself held name)

  pub stands_without_link : (name : List ℕ) → ((kind : LinkKind) → Has held (object.Link name kind) → ⊥) → loses_link held wanted name ≡ false
  stands_without_link name none = false_of_not (loses_link held wanted name) (λ h.
      let f = loses_link_with held wanted name h in
      elim (over_cases held f.base name f.over) as (λ _. ⊥) [
        | inl same ↦ none f.kind (subst (λ n. Has held (object.Link n f.kind)) same f.had)
        | inr v ↦ none (Vlan v.lower v.id v.mac) v.held
      ])

  pub stands_on_bridge : (name : List ℕ) (mac : Option Mac) (filtering : Bool) → Has held (object.Link name (Bridge mac filtering)) → Has wanted (object.Link name (Bridge mac filtering)) → loses_link held wanted name ≡ false
  stands_on_bridge name mac filtering h is = false_of_not (loses_link held wanted name) (λ down.
      let f = loses_link_with held wanted name down in
      elim (over_cases held f.base name f.over) as (λ _. ⊥) [
        | inl same ↦
            let one = one_link held steady name f.kind (Bridge mac filtering) (subst (λ n. Has held (object.Link n f.kind)) same f.had) h in
            f.unwanted (subst (Has wanted) (sym (ap (λ n. object.Link n f.kind) same ∙ one)) is)
        | inr v ↦ let one = one_link held steady name (Vlan v.lower v.id v.mac) (Bridge mac filtering) v.held h in cc one
      ])

  pub loses_link_by_lower : (name lower : List ℕ) (id : ℕ) (mac : Option Mac) → Has held (object.Link name (Vlan lower id mac)) → Has wanted (object.Link name (Vlan lower id mac)) → loses_link held wanted lower ≡ loses_link held wanted name
  loses_link_by_lower name lower id mac h is = true_of_both_ways (loses_link held wanted lower) (loses_link held wanted name)
      (λ down. loses_link_above held wanted lower name down (over_lower held name lower id mac h))
      (λ down.
      let f = loses_link_with held wanted name down in
      elim (over_cases held f.base name f.over) as (λ _. loses_link held wanted lower ≡ true) [
        | inl same ↦
            let one = one_link held steady name f.kind (Vlan lower id mac) (subst (λ n. Has held (object.Link n f.kind)) same f.had) h in
            absurd (f.unwanted (subst (Has wanted) (sym (ap (λ n. object.Link n f.kind) same ∙ one)) is))
        | inr v ↦
            let one = one_link held steady name (Vlan v.lower v.id v.mac) (Vlan lower id mac) v.held h in
            let below : v.lower ≡ lower = cc one in
            loses_link_of held wanted lower f.base f.kind f.had f.unwanted (subst (λ n. is_over held f.base n ≡ true) below v.over)
      ])
