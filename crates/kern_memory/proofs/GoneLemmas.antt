-- What goes with a device, one VLAN over it at a time.
use Rattle.std.proofs.Common.{ℕ, ◌≡◌, ◌⊎◌, inl, inr, List, Option, true, false, refl, ap, sym, subst, ◌∙◌}
use Rattle.std.specs.Prelude.{◌&&◌, not, bytes_eq}
use Rattle.std.specs.FinSet as set
use Rattle.kern_model.specs.declared.object.Mac.{Mac}
use Rattle.kern_model.specs.declared.object.LinkKind.TheVariants.{Vlan}
use Rattle.kern_model.specs.declared.object.Object.{Object}
use Rattle.kern_model.specs.declared.object.Object.TheVariants as object
use Rattle.kern_model.specs.ObjectOrder.{Objects, Has}
use Rattle.kern_model.specs.Standing.{places_of, is_over, IsOver, stands_on, gone}
use Rattle.kern_model.specs.Kernel.{name_of}
use Rattle.kern_model.specs.AdmissionTest.{is_at, is_vlan_over}
use Rattle.kern_model.proofs.TestLemmas.{both, of_both, either, of_left, not_true, of_not, true_or_not, true_of_both_ways, bytes_same, same_bytes, from_any, of_any}
use Rattle.kern_model.proofs.SetLemmas.{same_or_other, same_members, has_retained, of_retained, has_without, of_without}
use Rattle.kern_model.proofs.StandingLemmas.{over_itself, over_on, over_lower}
use Rattle.kern_model.proofs.GoneLemmas.{is_over_of_test, test_of_is_over, over_more}

stands_more : (s t : Objects) → ((x : Object) → Has s x → Has t x) → (base : List ℕ) (o : Object) → stands_on s base o ≡ true → stands_on t base o ≡ true
stands_more s t within base o h = let found = from_any (is_over s base) (places_of o) h in of_any (is_over t base) (places_of o) found.passing found.member (over_more s t within base found.passing found.passes)

-- without one VLAN over a base, and without what then stands on that VLAN, the same stands on the
-- base
module _ (s t u : Objects) (upper base : List ℕ) (id : ℕ) (mac : Option Mac) (held : Has s (object.Link upper (Vlan base id mac)))
    (within : (x : Object) → Has t x → Has s x) (but_one : (x : Object) → Has s x → (x ≡ object.Link upper (Vlan base id mac) → ⊥) → Has t x)
    (within_again : (x : Object) → Has u x → Has t x) (but_standing : (x : Object) → Has t x → (stands_on t upper x ≡ true → ⊥) → Has u x) where
  past_one : (a b : List ℕ) → IsOver s a b → IsOver t a b ⊎ IsOver t upper b
  past_one a b IsOver.itself = inl IsOver.itself
  past_one a b (IsOver.above n l i m h p) =
      let x = object.Link n (Vlan l i m) in
      elim (same_or_other x (object.Link upper (Vlan base id mac))) as (λ _. IsOver t a n ⊎ IsOver t upper n) [
        | inl same ↦ let named : upper ≡ n = cc same in inr (subst (IsOver t upper) named IsOver.itself)
        | inr other ↦ elim (past_one a l p) as (λ _. IsOver t a n ⊎ IsOver t upper n) [
          | inl q ↦ inl (IsOver.above n l i m (but_one x h other) q)
          | inr q ↦ inr (IsOver.above n l i m (but_one x h other) q)
        ]
      ]

  past_standing : (a b : List ℕ) → IsOver t a b → (is_over t upper b ≡ true) ⊎ IsOver u a b
  past_standing a b IsOver.itself = inr IsOver.itself
  past_standing a b (IsOver.above n l i m h p) =
      let x = object.Link n (Vlan l i m) in
      elim (past_standing a l p) as (λ _. (is_over t upper n ≡ true) ⊎ IsOver u a n) [
        | inl over ↦ inl (over_on t upper l n over (over_lower t n l i m h))
        | inr q ↦ elim (true_or_not (is_over t upper l)) as (λ _. (is_over t upper n ≡ true) ⊎ IsOver u a n) [
          | inl over ↦ inl (over_on t upper l n over (over_lower t n l i m h))
          | inr apart ↦ inr (IsOver.above n l i m (but_standing x h (λ stands. elim (either (is_over t upper l) false stands) as (λ _. ⊥) [ inl over ↦ apart over | inr none ↦ cc none ])) q)
        ]
      ]

  stands_still : (o : Object) → stands_on s base o ≡ true → (stands_on t upper o ≡ true) ⊎ (stands_on u base o ≡ true)
  stands_still o h =
      let found = from_any (is_over s base) (places_of o) h in
      let p = found.passing in
      elim (past_one base p (is_over_of_test s base p found.passes)) as (λ _. (stands_on t upper o ≡ true) ⊎ (stands_on u base o ≡ true)) [
        | inl q ↦ elim (past_standing base p q) as (λ _. (stands_on t upper o ≡ true) ⊎ (stands_on u base o ≡ true)) [
          | inl over ↦ inl (of_any (is_over t upper) (places_of o) p found.member over)
          | inr r ↦ inr (of_any (is_over u base) (places_of o) p found.member (test_of_is_over u base p r))
        ]
        | inr q ↦ inl (of_any (is_over t upper) (places_of o) p found.member (test_of_is_over t upper p q))
      ]

  stands_below : (o : Object) → stands_on t upper o ≡ true → stands_on s base o ≡ true
  stands_below o h =
      let found = from_any (is_over t upper) (places_of o) h in
      of_any (is_over s base) (places_of o) found.passing found.member (over_on s base upper found.passing (over_lower s upper base id mac held) (over_more t s within upper found.passing found.passes))

  stays_alike : (o : Object) → not (stands_on s base o) ≡ (not (stands_on t upper o) && not (stands_on u base o))
  stays_alike o = true_of_both_ways (not (stands_on s base o)) (not (stands_on t upper o) && not (stands_on u base o))
      (λ h. of_both (not (stands_on t upper o)) _ (of_not (stands_on t upper o) (λ g. not_true (stands_on s base o) h (stands_below o g)))
      (of_not (stands_on u base o) (λ g. not_true (stands_on s base o) h (stands_more u s (λ x v. within x (within_again x v)) base o g))))
      (λ h. let parts = both (not (stands_on t upper o)) (not (stands_on u base o)) h in
      of_not (stands_on s base o) (λ g. elim (stands_still o g) as (λ _. ⊥) [ inl a ↦ not_true (stands_on t upper o) parts.0 a | inr b ↦ not_true (stands_on u base o) parts.1 b ]))

module _ (s : Objects) (upper name : List ℕ) (id : ℕ) (mac : Option Mac) (held : Has s (object.Link upper (Vlan name id mac))) where
  without_vlan : gone (gone (set.remove s (object.Link upper (Vlan name id mac))) upper) name ≡ gone s name
  without_vlan =
      let vlan = object.Link upper (Vlan name id mac) in
      let t = set.remove s vlan in
      let u = gone t upper in
      let past = λ (x : Object). not (stands_on t upper x) in
      let left = λ (x : Object). not (stands_on u name x) in
      let stays = λ (x : Object). not (stands_on s name x) in
      let goes : not (stands_on s name vlan) ≡ false = ap not (of_left (is_over s name name) false (over_itself s name)) in
      let alike = stays_alike s t u upper name id mac held
      (λ x h. (of_without s vlan x h).0)
      (λ x h other. has_without s vlan x h other)
      (λ x h. (of_retained t past x h).0)
      (λ x h apart. has_retained t past x h (of_not (stands_on t upper x) apart)) in
      same_members (gone u name) (gone s name)
      (λ x h.
      let last = of_retained u left x h in
      let first = of_retained t past x last.0 in
      has_retained s stays x (of_without s vlan x first.0).0 (alike x ∙ of_both (past x) (left x) first.1 last.1))
      (λ x h.
      let was = of_retained s stays x h in
      let parts = both (past x) (left x) (sym (alike x) ∙ was.1) in
      let other : x ≡ vlan → ⊥ = λ same. cc (sym was.1 ∙ ap stays same ∙ goes) in
      has_retained u left x (has_retained t past x (has_without s vlan x was.0 other) parts.0) parts.1)

-- without a VLAN over a name, and what then stands on that VLAN, the same goes with the name
pub without_one : (s : Objects) (o : Object) (name : List ℕ) → Has s o → is_vlan_over name o ≡ true → gone (gone (set.remove s o) (name_of o)) name ≡ gone s name
without_one s (object.Link upper (Vlan other id mac)) name held vlan = subst (λ n. gone (gone (set.remove s (object.Link upper (Vlan other id mac))) upper) n ≡ gone s n) (bytes_same other name vlan) (without_vlan s upper other id mac held)
without_one s o name held vlan = cc vlan

-- where there is no VLAN over a name, what stands on it is at it
module _ (s : Objects) (name : List ℕ) (none : (o : Object) → Has s o → is_vlan_over name o ≡ true → ⊥) where
  only_itself : (b : List ℕ) → IsOver s name b → b ≡ name
  only_itself b IsOver.itself = refl
  only_itself b (IsOver.above n l i m held p) = absurd (none (object.Link n (Vlan l i m)) held (same_bytes l name (only_itself l p)))

  at_or_not : (o : Object) → not (is_at name o) ≡ not (stands_on s name o)
  at_or_not o = ap not (true_of_both_ways (is_at name o) (stands_on s name o)
      (λ h. let found = from_any (λ place. bytes_eq place name) (places_of o) h in
      of_any (is_over s name) (places_of o) found.passing found.member (subst (λ n. is_over s name n ≡ true) (sym (bytes_same found.passing name found.passes)) (over_itself s name)))
      (λ h. let found = from_any (is_over s name) (places_of o) h in
      of_any (λ place. bytes_eq place name) (places_of o) found.passing found.member (same_bytes found.passing name (only_itself found.passing (is_over_of_test s name found.passing found.passes)))))

  pub without_vlans : set.retain s (λ o. not (is_at name o)) ≡ gone s name
  without_vlans = ap (set.retain s) (λ i x. at_or_not x i)
