-- The claims of names follow where an interface becomes another.
use Rattle.std.proofs.Common.{arith, inl, inr, ℕ, ◌≡◌, ◌≤◌, ◌<◌, ◌+◌, List, Bool, true, false, cond, Option, Some, None, refl, ap, sym, subst, ◌∙◌}
use Rattle.std.specs.Prelude.{◌&&◌, ◌||◌, bytes_eq, is_some, position}
use Rattle.kern_model.proofs.TestLemmas.{either, of_left, of_right, false_of_not, bytes_same}
use Rattle.net_rules.specs.Rows.{is_name}
use Rattle.graph_rules.specs.State.{Known, State, claims_in, place_among}
use Rattle.net_rules.specs.declared.state.InterfaceState.{InterfaceState}
use Rattle.net_rules.specs.Claims.{uses_by, claim_of}
use Rattle.claim_moves.specs.Claiming.{DiffersInClaims, CanMove, claim_where, MovesNamed, Moves, apart_from, one, one_at}

-- ---- names apart from others

record IsApart (first second o : Option (List ℕ)) (q : List ℕ) : Type 0 where
  is : is_name o q ≡ true
  off_first : is_name first q ≡ false
  off_second : is_name second q ≡ false

named_apart : (first second o : Option (List ℕ)) (q : List ℕ) → is_name (apart_from first second o) q ≡ true → IsApart first second o q
named_apart first second None q h = cc h
named_apart first second (Some name) q h = by (is_name first name) (is_name second name) refl refl h
  where
    by : (a b : Bool) → is_name first name ≡ a → is_name second name ≡ b → is_name (cond {A = Option (List ℕ)} (a || b) None (Some name)) q ≡ true → IsApart first second (Some name) q
    by true b one_is other_is h = cc h
    by false true one_is other_is h = cc h
    by false false one_is other_is h =
        let same : name ≡ q = bytes_same name q h in
        record { is = h; off_first = ap (is_name first) (sym same) ∙ one_is; off_second = ap (is_name second) (sym same) ∙ other_is }

not_apart : (first second o : Option (List ℕ)) (q : List ℕ) → is_name (apart_from first second o) q ≡ false → is_name o q ≡ true → (is_name first q || is_name second q) ≡ true
not_apart first second None q h is = cc is
not_apart first second (Some name) q h is = by (is_name first name) (is_name second name) refl refl h
  where
    same : name ≡ q
    same = bytes_same name q is

    by : (a b : Bool) → is_name first name ≡ a → is_name second name ≡ b → is_name (cond {A = Option (List ℕ)} (a || b) None (Some name)) q ≡ false → (is_name first q || is_name second q) ≡ true
    by true b one_is other_is h = of_left (is_name first q) (is_name second q) (ap (is_name first) (sym same) ∙ one_is)
    by false true one_is other_is h = of_right (is_name first q) (is_name second q) (ap (is_name second) (sym same) ∙ other_is)
    by false false one_is other_is h = cc (h, is)

-- ---- one name

pub moved_one : (name : List ℕ) (old new : InterfaceState) (before now : Known) → ((q : List ℕ) → claims_in now q + one_at name q (uses_by name old) ≡ claims_in before q + one_at name q (uses_by name new))
    → MovesNamed (Some name) old new before now
moved_one name old new before now moves q = by (bytes_eq name q) refl (moves q)
  where
    by : (b : Bool) → bytes_eq name q ≡ b → claims_in now q + cond b (one (uses_by name old)) 0 ≡ claims_in before q + cond b (one (uses_by name new)) 0 → claims_in now q + cond b (claim_of q old) 0 ≡ claims_in before q
        + cond b (claim_of q new) 0
    by true is h =
        let same : name ≡ q = bytes_same name q is in
        subst (λ x. claims_in now q + one (uses_by x old) ≡ claims_in before q + one (uses_by x new)) same h
    by false is h = h

pub moved_none : (old new : InterfaceState) (s : Known) → MovesNamed None old new s s
moved_none old new s q = refl

-- a name that is neither its device nor its layer-3 device is not used
neither : (a b : Bool) → ((a && false) || (b && false)) ≡ false
neither true true = refl
neither true false = refl
neither false true = refl
neither false false = refl

pub unused : (st : InterfaceState) (q : List ℕ) → is_name st.device q ≡ false → is_name st.l3_device q ≡ false → claim_of q st ≡ 0
unused st q no_device no_l3_device = ap one
    (ap (λ b. (st.is_claimed && b) || (st.is_up && is_name st.l3_device q)) no_device
    ∙ ap (λ b. (st.is_claimed && false) || (st.is_up && b)) no_l3_device
    ∙ neither st.is_claimed st.is_up)

-- ---- three names, apart from each other

module _ (old new : InterfaceState) where
  abbrev pub second_name : Option (List ℕ)
  second_name = apart_from old.device None old.l3_device

  abbrev pub third_name : Option (List ℕ)
  third_name = apart_from old.device old.l3_device new.l3_device

  no_old_l3_device : (q : List ℕ) → is_name old.device q ≡ false → is_name second_name q ≡ false → is_name old.l3_device q ≡ false
  no_old_l3_device q no_device no_second = false_of_not (is_name old.l3_device q) (λ is.
      elim (either (is_name old.device q) false (not_apart old.device None old.l3_device q no_second is)) as (λ _. ⊥) [
        | inl h ↦ cc (h, no_device)
        | inr h ↦ cc h
      ])

  no_new_l3_device : (q : List ℕ) → is_name old.device q ≡ false → is_name old.l3_device q ≡ false → is_name third_name q ≡ false → is_name new.l3_device q ≡ false
  no_new_l3_device q no_device no_l3_device no_third = false_of_not (is_name new.l3_device q) (λ is.
      elim (either (is_name old.device q) (is_name old.l3_device q) (not_apart old.device old.l3_device new.l3_device q no_third is)) as (λ _. ⊥) [
        | inl h ↦ cc (h, no_device)
        | inr h ↦ cc (h, no_l3_device)
      ])

  -- a name of the three is that of one alone
  second_alone : (q : List ℕ) → is_name second_name q ≡ true → (is_name old.device q ≡ false) × (is_name third_name q ≡ false)
  second_alone q h =
      let apart = named_apart old.device None old.l3_device q h in
      (apart.off_first, false_of_not (is_name third_name q) (λ third. let other = named_apart old.device old.l3_device new.l3_device q third in cc (other.off_second, apart.is)))

  first_alone : (q : List ℕ) → is_name old.device q ≡ true → (is_name second_name q ≡ false) × (is_name third_name q ≡ false)
  first_alone q h = (
    false_of_not (is_name second_name q) (λ second. let other = named_apart old.device None old.l3_device q second in cc (other.off_first, h)),
    false_of_not (is_name third_name q) (λ third. let other = named_apart old.device old.l3_device new.l3_device q third in cc (other.off_first, h)),
  )

  third_alone : (q : List ℕ) → is_name third_name q ≡ true → (is_name old.device q ≡ false) × (is_name second_name q ≡ false)
  third_alone q h =
      let apart = named_apart old.device old.l3_device new.l3_device q h in
      (apart.off_first, false_of_not (is_name second_name q) (λ second. let other = named_apart old.device None old.l3_device q second in cc (other.is, apart.off_second)))

  told : (o : Option (List ℕ)) (q : List ℕ) (st : InterfaceState) → is_name o q ≡ true → claim_where o q st ≡ claim_of q st
  told o q st h = ap (λ b. cond b (claim_of q st) 0) h

  untold : (o : Option (List ℕ)) (q : List ℕ) (st : InterfaceState) → is_name o q ≡ false → claim_where o q st ≡ 0
  untold o q st h = ap (λ b. cond b (claim_of q st) 0) h

  -- names that a move leaves
  pub left_by : (o : Option (List ℕ)) (before now : Known) → MovesNamed o old new before now → (q : List ℕ) → is_name o q ≡ false → claims_in now q ≡ claims_in before q
  left_by o before now moves q h =
      let sum = moves q in
      let a = untold o q old h in
      let b = untold o q new h in
      omega (arith, sum, a, b)

  -- all three moves together
  pub moved_all : (r s t u : Known) → new.device ≡ old.device → MovesNamed old.device old new r s → MovesNamed second_name old new s t → MovesNamed third_name old new t u → Moves old new r u
  moved_all r s t u same first second third q = by (is_name old.device q) (is_name second_name q) (is_name third_name q) refl refl refl
    where
      one_sum : claims_in s q + claim_where old.device q old ≡ claims_in r q + claim_where old.device q new
      one_sum = first q

      two_sum : claims_in t q + claim_where second_name q old ≡ claims_in s q + claim_where second_name q new
      two_sum = second q

      three_sum : claims_in u q + claim_where third_name q old ≡ claims_in t q + claim_where third_name q new
      three_sum = third q

      by : (a b c : Bool) → is_name old.device q ≡ a → is_name second_name q ≡ b → is_name third_name q ≡ c → claims_in u q + claim_of q old ≡ claims_in r q + claim_of q new
      by true b c is_a is_b is_c =
          let alone = first_alone q is_a in
          let x1 = told old.device q old is_a in
          let x2 = told old.device q new is_a in
          let y = left_by second_name s t second q alone.0 in
          let z = left_by third_name t u third q alone.1 in
          omega (arith, one_sum, x1, x2, y, z)
      by false true c is_a is_b is_c =
          let alone = second_alone q is_b in
          let x1 = told second_name q old is_b in
          let x2 = told second_name q new is_b in
          let y = left_by old.device r s first q is_a in
          let z = left_by third_name t u third q alone.1 in
          omega (arith, two_sum, x1, x2, y, z)
      by false false true is_a is_b is_c =
          let x1 = told third_name q old is_c in
          let x2 = told third_name q new is_c in
          let y = left_by old.device r s first q is_a in
          let z = left_by second_name s t second q is_b in
          omega (arith, three_sum, x1, x2, y, z)
      by false false false is_a is_b is_c =
          let no_l3_device = no_old_l3_device q is_a is_b in
          let x1 = unused old q is_a no_l3_device in
          let x2 = unused new q (ap (λ (d : Option (List ℕ)). is_name d q) same ∙ is_a) (no_new_l3_device q is_a no_l3_device is_c) in
          let y = left_by old.device r s first q is_a in
          let z = left_by second_name s t second q is_b in
          let w = left_by third_name t u third q is_c in
          omega (arith, x1, x2, y, z, w)

  -- what a move of one name asks is told before the first, and stays behind moves of others
  pub record CanMoveAt (s : Known) (q : List ℕ) : Type 0 where
    pub claimed : uses_by q old ≡ true → 0 < claims_in s q
    pub known : uses_by q new ≡ true → is_some (place_among s.names q) ≡ true
    pub few : claims_in s q + claim_of q new ≤ 1024 + claim_of q old

  pub can_at : (s : Known) → CanMove s old new → (q : List ℕ) → CanMoveAt s q
  can_at s can q = record { claimed = can.claimed q; known = can.known q; few = can.few q }

  pub can_still : (o : Option (List ℕ)) (before now : State) → MovesNamed o old new before.known now.known → DiffersInClaims before now → (q : List ℕ) → is_name o q ≡ false → CanMoveAt before.known q → CanMoveAt now.known q
  can_still o before now moves stays q other can =
      let same = left_by o before.known now.known moves q other in
      record {
        claimed = λ uses. subst (λ k. 0 < k) (sym same) (can.claimed uses);
        known = λ uses. ap (λ (ns : List (List ℕ)). is_some (position (bytes_eq q) ns)) stays.names ∙ can.known uses;
        few = subst (λ k. k + claim_of q new ≤ 1024 + claim_of q old) (sym same) can.few;
      }

  pub second_can : (r s : State) → MovesNamed old.device old new r.known s.known → DiffersInClaims r s → CanMove r.known old new → (q : List ℕ) → is_name second_name q ≡ true → CanMoveAt s.known q
  second_can r s moves stays can q h = can_still old.device r s moves stays q (second_alone q h).0 (can_at r.known can q)

  pub third_can : (r s t : State) → MovesNamed old.device old new r.known s.known → DiffersInClaims r s → MovesNamed second_name old new s.known t.known → DiffersInClaims s t → CanMove r.known old new → (q : List ℕ) → is_name third_name q
      ≡ true → CanMoveAt t.known q
  third_can r s t first stays second stay can q h =
      let alone = third_alone q h in
      can_still second_name s t second stay q alone.1 (can_still old.device r s first stays q alone.0 (can_at r.known can q))
