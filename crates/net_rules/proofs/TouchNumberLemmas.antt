-- Lists of rising numbers: which of them are lost, and which are new.
use Rattle.std.proofs.Common.{arith, ◌≡◌, ◌≤◌, ◌<◌, inl, inr, ℕ, ◌+◌, List, [], ◌∷◌, map, Bool, true, false, cond, Contains, refl, ap, sym, subst, ◌∙◌, Less, Equal, Greater}
use Rattle.std.specs.Prelude.{filter, not, nat_le, ◌==◌}
use Rattle.std.specs.List.{list_any}
use Rattle.std.specs.Ordering.{nat_cmp}
use Rattle.std.proofs.lemmas.Bool.Decides.{Decides-eqb, Decides-ltb}
use Rattle.plane_words.specs.InOrder.{placed, put_in, ordered}
use Rattle.kern_model.proofs.MemberLemmas.{first_or_later, none_in_nil, map_member}
use Rattle.kern_model.proofs.TestLemmas.{at_most, at_most_test, false_of_not, not_true, of_any, from_any}
use Rattle.net_rules.specs.Numbers.{AreRising}
use Rattle.net_rules.proofs.OnceLemmas.{all_kept, none_kept}

pub wider : (least low bound : ℕ) → low ≤ least → (ns : List ℕ) → AreRising least bound ns → AreRising low bound ns
wider least low bound p [] h = tt
wider least low bound p (n ∷ ns) h = let from = h.0 in (omega (arith, from, p), h.1, h.2)

pub between : (least bound : ℕ) (ns : List ℕ) (n : ℕ) → AreRising least bound ns → Contains ns n → (least ≤ n) × (n < bound)
between least bound [] n h member = absurd (none_in_nil n member)
between least bound (m ∷ ms) n h member =
    let from = h.0 in let to = h.1 in
    elim (first_or_later m ms n member) as (λ _. (least ≤ n) × (n < bound)) [
      | inl same ↦ (subst (λ k. least ≤ k) same from, subst (λ k. k < bound) same to)
      | inr later ↦ let rest = between (m + 1) bound ms n h.2 later in let above = rest.0 in (omega (arith, from, above), rest.1)
    ]

-- a filter leaves them rising
pub rising_kept : {O : Type 0} (number : O → ℕ) (p : O → Bool) (os : List O) (least bound : ℕ) → AreRising least bound (map number os) → AreRising least bound (map number (filter p os))
rising_kept number p [] least bound h = tt
rising_kept number p (o ∷ os) least bound h = elim (p o) as (λ b. AreRising least bound (map number (cond b (o ∷ filter p os) (filter p os)))) [
  | true ↦ (h.0, h.1, rising_kept number p os (number o + 1) bound h.2)
  | false ↦ let from = h.0 in wider (number o + 1) least bound (omega (arith, from)) (map number (filter p os)) (rising_kept number p os (number o + 1) bound h.2)
]

-- they are in order
less : (a b : ℕ) → a < b → nat_cmp a b ≡ Less
less a b h = ap (λ t. cond t Less (cond (a == b) Equal Greater)) ((Decides-ltb a b).1 h)

pub in_order : (least bound : ℕ) (ns : List ℕ) → AreRising least bound ns → ordered nat_cmp ns ≡ ns
in_order least bound [] h = refl
in_order least bound (n ∷ ns) h = ap (put_in nat_cmp n) (in_order (n + 1) bound ns h.2) ∙ first ns h.2
  where
    first : (ms : List ℕ) → AreRising (n + 1) bound ms → put_in nat_cmp n ms ≡ n ∷ ms
    first [] rising = refl
    first (m ∷ ms) rising = let from = rising.0 in ap (λ o. placed o n m ms (put_in nat_cmp n ms)) (less n m (omega (arith, from)))

-- one number stands once
pub one_of_number : {O : Type 0} (number : O → ℕ) (os : List O) (least bound : ℕ) → AreRising least bound (map number os) → (a b : O) → Contains os a → Contains os b → number a ≡ number b → a ≡ b
one_of_number number [] least bound h a b member another same = absurd (none_in_nil a member)
one_of_number {O} number (o ∷ os) least bound h a b member another same = elim (first_or_later o os a member) as (λ _. a ≡ b) [
  | inl first ↦ elim (first_or_later o os b another) as (λ _. a ≡ b) [
    | inl second ↦ sym first ∙ second
    | inr later ↦ absurd (beyond b later (ap number first ∙ same))
  ]
  | inr before ↦ elim (first_or_later o os b another) as (λ _. a ≡ b) [
    | inl second ↦ absurd (beyond a before (ap number second ∙ sym same))
    | inr later ↦ one_of_number number os (number o + 1) bound h.2 a b before later same
  ]
]
  where
    beyond : (x : O) → Contains os x → number o ≡ number x → ⊥
    beyond x inside is = let above = (between (number o + 1) bound (map number os) (number x) h.2 (map_member number os x inside)).0 in omega (arith, above, is)

-- none of those that are given again is lost
pub any_number : (ns : List ℕ) (n : ℕ) → Contains ns n → list_any (λ m. m == n) ns ≡ true
any_number ns n h = of_any (λ m. m == n) ns n h ((Decides-eqb n n).1 refl)

pub number_of_any : (ns : List ℕ) (n : ℕ) → list_any (λ m. m == n) ns ≡ true → Contains ns n
number_of_any ns n h = let found = from_any (λ m. m == n) ns h in subst (Contains ns) ((Decides-eqb found.passing n).0 found.passes) found.member

pub none_lost : (current ns : List ℕ) → ((n : ℕ) → Contains ns n → Contains current n) → filter (λ n. not (list_any (λ m. m == n) current)) ns ≡ []
none_lost current ns within = none_kept (λ n. not (list_any (λ m. m == n) current)) ns (λ n member.
    false_of_not (not (list_any (λ m. m == n) current)) (λ h. not_true (list_any (λ m. m == n) current) h (any_number current n (within n member))))

-- which have a number from a bound on
pub none_new : {O : Type 0} (number : O → ℕ) (next least : ℕ) (os : List O) → AreRising least next (map number os) → filter (λ o. nat_le next (number o)) os ≡ []
none_new number next least os rising = none_kept (λ o. nat_le next (number o)) os (λ o member. false_of_not (nat_le next (number o)) (λ h.
    let below = (between least next (map number os) (number o) rising (map_member number os o member)).1 in
    let from = at_most next (number o) h in
    absurd (omega (arith, below, from))))

pub all_new : {O : Type 0} (number : O → ℕ) (next : ℕ) (os : List O) → ((o : O) → Contains os o → next ≤ number o) → filter (λ o. nat_le next (number o)) os ≡ os
all_new number next os from = all_kept (λ o. nat_le next (number o)) os (λ o member. at_most_test next (number o) (from o member))
