-- Allowed sets: the empty one, and heights in them.
use Rattle.std.proofs.Common.{ℕ, ◌≡◌, ◌+◌, inl, inr, List, Option, true, cond, refl, ap, sym, subst, ◌∙◌}
use Rattle.std.specs.Prelude.{bytes_eq}
use Rattle.std.specs.FinSet as set
use Rattle.kern_model.specs.declared.object.Mac.{Mac}
use Rattle.kern_model.specs.declared.object.LinkKind.{LinkKind}
use Rattle.kern_model.specs.declared.object.LinkKind.TheVariants.{Vlan}
use Rattle.kern_model.specs.declared.object.Object.{Object}
use Rattle.kern_model.specs.declared.object.Object.TheVariants as object
use Rattle.kern_model.specs.ObjectOrder.{Objects, Has, object_cmp}
use Rattle.kern_model.specs.Standing.{is_over, is_vlan_under, height}
use Rattle.kern_model.specs.Kernel.{Devices}
use Rattle.kern_model.specs.Allowed.{AreAllowed, are_one_vlan}
use Rattle.kern_model.proofs.OrderLemmas.{objects_total}
use Rattle.kern_model.proofs.TestLemmas.{of_left, same_bytes, false_of_not}
use Rattle.kern_model.proofs.SetLemmas.{has_itself, has_before, new_or_before, has_retained, of_retained, same_members, none_in_empty}
use Rattle.kern_model.proofs.StandingLemmas.{over_itself, over_lower, over_cases, still_under, is_under}

pub nothing_allowed : (devices : Devices) → AreAllowed devices set.empty
nothing_allowed devices = record { supported = λ o h. absurd (none_in_empty o h); apart = λ a b h g excluded. absurd (none_in_empty a h) }

module _ (devices : Devices) (objects : Objects) (allowed : AreAllowed devices objects) where
  -- a name has one link
  pub one_link : (name : List ℕ) (kind other : LinkKind) → Has objects (object.Link name kind) → Has objects (object.Link name other) → object.Link name kind ≡ object.Link name other
  one_link name kind other h g = allowed.apart (object.Link name kind) (object.Link name other) h g (of_left (bytes_eq name name) (are_one_vlan kind other) (same_bytes name name refl))

  module _ (name lower : List ℕ) (id : ℕ) (mac : Option Mac) (held : Has objects (object.Link name (Vlan lower id mac))) where
    link : Object
    link = object.Link name (Vlan lower id mac)

    below : Objects
    below = set.retain objects (is_vlan_under objects lower)

    -- what is under a VLAN is under its lower name, or is the VLAN
    under_lower : (x : Object) → Has objects x → is_vlan_under objects name x ≡ true → Has (set.insert (set.retain objects (is_vlan_under objects lower)) (object.Link name (Vlan lower id mac))) x
    under_lower (object.Link vlan (Vlan l i m)) had over =
        let s = set.retain objects (is_vlan_under objects lower) in
        let x = object.Link vlan (Vlan l i m) in
        elim (over_cases objects vlan name over) as (λ _. Has (set.insert s (object.Link name (Vlan lower id mac))) x) [
          | inl same ↦
              let named : Has objects (object.Link name (Vlan l i m)) = subst (λ n. Has objects (object.Link n (Vlan l i m))) same had in
              let one = one_link name (Vlan l i m) (Vlan lower id mac) named held in
              subst (Has (set.insert s (object.Link name (Vlan lower id mac)))) (sym (cc (same, one))) (has_itself s (object.Link name (Vlan lower id mac)))
          | inr v ↦
              let one = one_link name (Vlan v.lower v.id v.mac) (Vlan lower id mac) v.held held in
              let same : v.lower ≡ lower = cc one in
              has_before s (object.Link name (Vlan lower id mac)) x (is_under objects lower vlan l i m had (subst (λ n. is_over objects vlan n ≡ true) same v.over))
        ]
    under_lower x had over = cc over

    pub one_higher : height objects name ≡ height objects lower + 1
    one_higher =
        let s = set.retain objects (is_vlan_under objects lower) in
        let t = set.retain objects (is_vlan_under objects name) in
        let o = object.Link name (Vlan lower id mac) in
        let up = over_lower objects name lower id mac held in
        let new : set.contains s o ≡ _ = false_of_not (set.contains s o) (λ h. (allowed.supported o held).1.grounded (of_retained objects (is_vlan_under objects lower) o h).1) in
        let same : t ≡ set.insert s o = same_members t (set.insert s o)
        (λ x h. let was = of_retained objects (is_vlan_under objects name) x h in under_lower x was.0 was.1)
        (λ x h. elim (new_or_before s o x h) as (λ _. Has t x) [
          | inl is ↦ subst (Has t) (sym is) (is_under objects name name lower id mac held (over_itself objects name))
          | inr before ↦ let was = of_retained objects (is_vlan_under objects lower) x before in has_retained objects (is_vlan_under objects name) x was.0 (still_under objects lower name x up was.1)
        ]) in
        ap set.len same ∙ set.len-insert objects_total s o ∙ ap (λ b. cond b (set.len s) (set.len s + 1)) new

  -- a name that is no VLAN is over none
  pub lowest : (name : List ℕ) → ((lower : List ℕ) (id : ℕ) (mac : Option Mac) → Has objects (object.Link name (Vlan lower id mac)) → ⊥) → height objects name ≡ 0
  lowest name plain =
      let t = set.retain objects (is_vlan_under objects name) in
      let none : t ≡ set.empty = same_members t set.empty (λ x h. let was = of_retained objects (is_vlan_under objects name) x h in absurd (over_none x was.0 was.1)) (λ x h. absurd (none_in_empty x h)) in
      ap set.len none ∙ set.len-empty object_cmp
    where
      over_none : (x : Object) → Has objects x → is_vlan_under objects name x ≡ true → ⊥
      over_none (object.Link vlan (Vlan l i m)) had over = elim (over_cases objects vlan name over) as (λ _. ⊥) [
        | inl same ↦ plain l i m (subst (λ n. Has objects (object.Link n (Vlan l i m))) same had)
        | inr v ↦ plain v.lower v.id v.mac v.held
      ]
      over_none x had over = cc over
