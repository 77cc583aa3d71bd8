-- What patterns fit.
use Rattle.std.proofs.Common.{ℕ, ◌≡◌, ◌⊎◌, inl, inr, List, [], ◌∷◌, ◌++◌, Bool, true, false, Contains, refl, ap, sym, subst, ◌∙◌}
use Rattle.std.specs.Prelude.{nat_eq, ◌&&◌, ◌||◌, MatchBool, if◌then◌else◌}
use Rattle.std.proofs.lemmas.Bool.{eqb-true, eq-eqb}
use Rattle.std.proofs.lemmas.Bool.Decides.{eqb_tells}
use Rattle.plane_words.specs.Pattern.{star, question_mark, is_nothing, fits_front, Fits, fits_later, fits_next, fits}
use Rattle.plane_words.proofs.MemberLemmas.{first_member, later_member}

-- tests
both_true : (a b : Bool) → (a && b) ≡ true → (a ≡ true) × (b ≡ true)
both_true true true h = (refl, refl)
both_true true false h = absurd (cc h)
both_true false b h = absurd (cc h)

and_true : (a b : Bool) → a ≡ true → b ≡ true → (a && b) ≡ true
and_true a b h k = cc

one_true : (a b : Bool) → (a || b) ≡ true → (a ≡ true) ⊎ (b ≡ true)
one_true true b h = inl refl
one_true false b h = inr h

first_true : (a b : Bool) → a ≡ true → (a || b) ≡ true
first_true true b h = refl
first_true false b h = absurd (cc h)

second_true : (a b : Bool) → b ≡ true → (a || b) ≡ true
second_true true b h = refl
second_true false b h = h

no_and_false : (a b : Bool) → (a && b) ≡ true → b ≡ false → ⊥
no_and_false a b h none = let b_true = (both_true a b h).1 in cc

same_byte : (a b : ℕ) → nat_eq a b ≡ true → a ≡ b
same_byte a b h = eqb-true a b h

byte_itself : (a : ℕ) → nat_eq a a ≡ true
byte_itself a = eq-eqb a a refl

other_byte : (a b : ℕ) → (a ≡ b → ⊥) → nat_eq a b ≡ false
other_byte a b apart = elim (eqb_tells a b) as (λ _. nat_eq a b ≡ false) [ inl same ↦ absurd (apart same.1) | inr other ↦ other.0 ]

nothing_left : (bytes : List ℕ) → is_nothing bytes ≡ true → bytes ≡ []
nothing_left [] h = refl
nothing_left (byte ∷ bytes) h = cc h

-- fronts
something_left : (front : List ℕ) → is_nothing (front ++ star ∷ []) ≡ false
something_left [] = refl
something_left (byte ∷ front) = refl

pub fitting_begins : (front text : List ℕ) → fits_front (front ++ star ∷ []) text ≡ true → (rest : List ℕ) × (text ≡ front ++ rest)
fitting_begins [] text h = (text, refl)
fitting_begins (byte ∷ front) [] h = absurd (no_and_false (nat_eq byte star) (is_nothing (front ++ star ∷ [])) h (something_left front))
fitting_begins (byte ∷ front) (first ∷ others) h =
    elim (one_true (nat_eq byte star && is_nothing (front ++ star ∷ [])) (nat_eq byte first && fits_front (front ++ star ∷ []) others) h) as (λ _. (rest : List ℕ) × (first ∷ others ≡ byte ∷ front ++ rest)) [
      | inl last ↦ absurd (no_and_false (nat_eq byte star) (is_nothing (front ++ star ∷ [])) last (something_left front))
      | inr both ↦
          let parts = both_true (nat_eq byte first) (fits_front (front ++ star ∷ []) others) both in
          let found = fitting_begins front others parts.1 in
          let same = same_byte byte first parts.0 in
          let tail = found.1 in
          (found.0, cc)
    ]

pub begins_fits : (front rest : List ℕ) → fits_front (front ++ star ∷ []) (front ++ rest) ≡ true
begins_fits [] [] = refl
begins_fits [] (byte ∷ bytes) = refl
begins_fits (byte ∷ front) rest = second_true (nat_eq byte star && is_nothing (front ++ star ∷ [])) (nat_eq byte byte && fits_front (front ++ star ∷ []) (front ++ rest))
    (and_true (nat_eq byte byte) (fits_front (front ++ star ∷ []) (front ++ rest)) (byte_itself byte) (begins_fits front rest))

last_star : (byte : ℕ) (pattern : List ℕ) → (nat_eq byte star && is_nothing pattern) ≡ true → byte ∷ pattern ≡ [] ++ star ∷ []
last_star byte pattern h =
    let parts = both_true (nat_eq byte star) (is_nothing pattern) h in
    let same = same_byte byte star parts.0 in
    let none = nothing_left pattern parts.1 in
    cc

pub fitting_is_itself : (pattern text : List ℕ) → ((front : List ℕ) → pattern ≡ front ++ star ∷ [] → ⊥) → fits_front pattern text ≡ true → text ≡ pattern
fitting_is_itself [] text other h = nothing_left text h
fitting_is_itself (byte ∷ pattern) [] other h = absurd (other [] (last_star byte pattern h))
fitting_is_itself (byte ∷ pattern) (first ∷ others) other h =
    elim (one_true (nat_eq byte star && is_nothing pattern) (nat_eq byte first && fits_front pattern others) h) as (λ _. first ∷ others ≡ byte ∷ pattern) [
      | inl last ↦ absurd (other [] (last_star byte pattern last))
      | inr both ↦
          let parts = both_true (nat_eq byte first) (fits_front pattern others) both in
          let tail = fitting_is_itself pattern others (λ front is. other (byte ∷ front) (ap (λ bytes. byte ∷ bytes) is)) parts.1 in
          let same = same_byte byte first parts.0 in
          cc
    ]

pub fits_front_itself : (pattern : List ℕ) → fits_front pattern pattern ≡ true
fits_front_itself [] = refl
fits_front_itself (byte ∷ pattern) = second_true (nat_eq byte star && is_nothing pattern) (nat_eq byte byte && fits_front pattern pattern)
    (and_true (nat_eq byte byte) (fits_front pattern pattern) (byte_itself byte) (fits_front_itself pattern))

-- a star anywhere
module _ (test : List ℕ → Bool) (P : List ℕ → Type 0) where
  later_found : ((text : List ℕ) → test text ≡ true → P text) → (text : List ℕ) → fits_later test text ≡ true → (skipped : List ℕ) × (rest : List ℕ) × (text ≡ skipped ++ rest) × P rest
  later_found to [] h = ([], [], refl, to [] h)
  later_found to (byte ∷ bytes) h = elim (one_true (test (byte ∷ bytes)) (fits_later test bytes) h) as (λ _. (skipped : List ℕ) × (rest : List ℕ) × (byte ∷ bytes ≡ skipped ++ rest) × P rest) [
    | inl here ↦ ([], byte ∷ bytes, refl, to (byte ∷ bytes) here)
    | inr later ↦ let found = later_found to bytes later in (byte ∷ found.0, found.1, ap (λ more. byte ∷ more) found.2, found.3)
  ]

  next_found : (passes : ℕ → Bool) → ((text : List ℕ) → test text ≡ true → P text) → (text : List ℕ) → fits_next passes test text ≡ true → (first : ℕ) × (rest : List ℕ) × (text ≡ first ∷ rest) × (passes first ≡ true) × P rest
  next_found passes to [] h = absurd (cc h)
  next_found passes to (byte ∷ bytes) h = let parts = both_true (passes byte) (test bytes) h in (byte, bytes, refl, parts.0, to bytes parts.1)

later_fits : (test : List ℕ → Bool) (skipped rest : List ℕ) → test rest ≡ true → fits_later test (skipped ++ rest) ≡ true
later_fits test [] [] h = h
later_fits test [] (byte ∷ bytes) h = first_true (test (byte ∷ bytes)) (fits_later test bytes) h
later_fits test (byte ∷ skipped) rest h = second_true (test (byte ∷ (skipped ++ rest))) (fits_later test (skipped ++ rest)) (later_fits test skipped rest h)

-- what one byte of a pattern stands for, and then the others
step_to : (b : Bool) (byte : ℕ) (test : List ℕ → Bool) (P : List ℕ → Type 0) (text : List ℕ) → ((rest : List ℕ) → test rest ≡ true → P rest)
    → (if b then fits_later test text else fits_next (λ first. nat_eq byte question_mark || nat_eq byte first) test text) ≡ true →
    MatchBool b ((skipped : List ℕ) × (rest : List ℕ) × (text ≡ skipped ++ rest) × P rest) ((first : ℕ) × (rest : List ℕ) × (text ≡ first ∷ rest) × ((nat_eq byte question_mark || nat_eq byte first) ≡ true) × P rest)
step_to true byte test P text to h = later_found test P to text h
step_to false byte test P text to h = next_found test P (λ first. nat_eq byte question_mark || nat_eq byte first) to text h

step_from : (b : Bool) (byte : ℕ) (test : List ℕ → Bool) (P : List ℕ → Type 0) (text : List ℕ) → ((rest : List ℕ) → P rest → test rest ≡ true) →
    MatchBool b ((skipped : List ℕ) × (rest : List ℕ) × (text ≡ skipped ++ rest) × P rest) ((first : ℕ) × (rest : List ℕ) × (text ≡ first ∷ rest) × ((nat_eq byte question_mark || nat_eq byte first) ≡ true) × P rest) →
    (if b then fits_later test text else fits_next (λ first. nat_eq byte question_mark || nat_eq byte first) test text) ≡ true
step_from true byte test P text from h = subst (λ whole. fits_later test whole ≡ true) (sym h.2) (later_fits test h.0 h.1 (from h.1 h.3))
step_from false byte test P text from h = subst (λ whole. fits_next (λ first. nat_eq byte question_mark || nat_eq byte first) test whole ≡ true) (sym h.2)
    (and_true (nat_eq byte question_mark || nat_eq byte h.0) (test h.1) h.3 (from h.1 h.4))

pub fits_to : (pattern text : List ℕ) → fits pattern text ≡ true → Fits pattern text
fits_to [] text h = nothing_left text h
fits_to (byte ∷ pattern) text h = step_to (nat_eq byte star) byte (fits pattern) (Fits pattern) text (fits_to pattern) h

pub fits_from : (pattern text : List ℕ) → Fits pattern text → fits pattern text ≡ true
fits_from [] text h = subst (λ whole. is_nothing whole ≡ true) (sym h) refl
fits_from (byte ∷ pattern) text h = step_from (nat_eq byte star) byte (fits pattern) (Fits pattern) text (fits_from pattern) h

-- plain patterns
plain_step : (byte : ℕ) (test : List ℕ → Bool) (text : List ℕ) → (byte ≡ star → ⊥) → (if nat_eq byte star then fits_later test text else fits_next (λ first. nat_eq byte question_mark || nat_eq byte first) test text)
    ≡ fits_next (λ first. nat_eq byte question_mark || nat_eq byte first) test text
plain_step byte test text apart = ap (λ b. if b then fits_later test text else fits_next (λ first. nat_eq byte question_mark || nat_eq byte first) test text) (other_byte byte star apart)

pub plain_is_itself : (pattern text : List ℕ) → (Contains pattern star → ⊥) → (Contains pattern question_mark → ⊥) → fits pattern text ≡ true → text ≡ pattern
plain_is_itself [] text stars marks h = nothing_left text h
plain_is_itself (byte ∷ pattern) text stars marks h =
    let apart : byte ≡ star → ⊥ = λ is. stars (subst (λ b. Contains (byte ∷ pattern) b) is (first_member byte pattern)) in
    let other : byte ≡ question_mark → ⊥ = λ is. marks (subst (λ b. Contains (byte ∷ pattern) b) is (first_member byte pattern)) in
    let found = next_found (fits pattern) (λ rest. fits pattern rest ≡ true) (λ first. nat_eq byte question_mark || nat_eq byte first) (λ rest is. is) text (sym (plain_step byte (fits pattern) text apart) ∙ h) in
    let tail = plain_is_itself pattern found.1 (λ inside. stars (later_member byte pattern star inside)) (λ inside. marks (later_member byte pattern question_mark inside)) found.4 in
    let same : byte ≡ found.0 = elim (one_true (nat_eq byte question_mark) (nat_eq byte found.0) found.3) as (λ _. byte ≡ found.0) [
      | inl mark ↦ absurd (other (same_byte byte question_mark mark))
      | inr is ↦ same_byte byte found.0 is
    ] in
    let whole = found.2 in
    cc

pub fits_itself : (pattern : List ℕ) → (Contains pattern star → ⊥) → fits pattern pattern ≡ true
fits_itself [] stars = refl
fits_itself (byte ∷ pattern) stars =
    plain_step byte (fits pattern) (byte ∷ pattern) (λ is. stars (subst (λ b. Contains (byte ∷ pattern) b) is (first_member byte pattern)))
    ∙ and_true (nat_eq byte question_mark || nat_eq byte byte) (fits pattern pattern) (second_true (nat_eq byte question_mark) (nat_eq byte byte) (byte_itself byte))
    (fits_itself pattern (λ inside. stars (later_member byte pattern star inside)))
