-- How patterns go on.
use Rattle.std.proofs.Common.{ℕ, ◌≡◌, ◌≤◌, ◌⊎◌, inl, inr, List, [], ◌∷◌, length, Bool, true, false, refl, ap, sym, subst, ◌∙◌, arith}
use Rattle.std.specs.Prelude.{nat_eq, ◌&&◌, ◌||◌, if◌then◌else◌}
use Rattle.plane_words.specs.Pattern.{star, fits_later, fits_next, fits}
use Rattle.rpc_session.specs.Pattern.{passes, GoesOn, SkipsOn}

one_true : (a b : Bool) → (a || b) ≡ true → (a ≡ true) ⊎ (b ≡ true)
one_true true b h = inl refl
one_true false b h = inr h

second_of_both : (a b : Bool) → (a && b) ≡ true → b ≡ true
second_of_both true b h = h
second_of_both false b h = absurd (cc h)

one_is : (a b : Bool) → b ≡ true → (a || b) ≡ true
one_is true b h = refl
one_is false b h = h

first_is : (a b : Bool) → a ≡ true → (a || b) ≡ true
first_is true b h = refl
first_is false b h = absurd (cc h)

neither : (a b : Bool) → a ≡ false → b ≡ false → (a || b) ≡ false
neither a b h k = cc

same_truth : (a b : Bool) → (a ≡ true → b ≡ true) → (b ≡ true → a ≡ true) → a ≡ b
same_truth true b to from = sym (to refl)
same_truth false true to from = from refl
same_truth false false to from = refl

-- what fits the text fits some end of it
pub at_once : (f : List ℕ → Bool) (text : List ℕ) → f text ≡ true → fits_later f text ≡ true
at_once f [] h = h
at_once f (first ∷ left) h = first_is (f (first ∷ left)) (fits_later f left) h

-- an end of the rest of the text is an end of the text
one_more : (f : List ℕ → Bool) (first : ℕ) (left : List ℕ) → fits_later f left ≡ true → fits_later f (first ∷ left) ≡ true
one_more f first left h = one_is (f (first ∷ left)) (fits_later f left) h

-- an end of an end is an end
end_of_end : (f : List ℕ → Bool) (text : List ℕ) → fits_later (fits_later f) text ≡ true → fits_later f text ≡ true
end_of_end f [] h = h
end_of_end f (first ∷ left) h = elim (one_true (fits_later f (first ∷ left)) (fits_later (fits_later f) left) h) as (λ _. fits_later f (first ∷ left) ≡ true) [
  | inl now ↦ now
  | inr later ↦ one_more f first left (end_of_end f left later)
]

-- tests that agree find the same ends
same_ends : (f g : List ℕ → Bool) → ((text : List ℕ) → f text ≡ g text) → (text : List ℕ) → fits_later f text ≡ fits_later g text
same_ends f g same [] = same []
same_ends f g same (first ∷ left) = ap (λ b. b || fits_later f left) (same (first ∷ left)) ∙ ap (λ b. g (first ∷ left) || b) (same_ends f g same left)

-- one byte on, an end that is left
end_behind : (test : ℕ → Bool) (f : List ℕ → Bool) (first : ℕ) (left : List ℕ) → fits_later (fits_next test f) (first ∷ left) ≡ true → fits_later f left ≡ true
end_behind test f first [] h = elim (one_true (test first && f []) false h) as (λ _. f [] ≡ true) [
  | inl now ↦ second_of_both (test first) (f []) now
  | inr later ↦ absurd (cc later)
]
end_behind test f first (second ∷ left) h = elim (one_true (test first && f (second ∷ left)) (fits_later (fits_next test f) (second ∷ left)) h) as (λ _. fits_later f (second ∷ left) ≡ true) [
  | inl now ↦ at_once f (second ∷ left) (second_of_both (test first) (f (second ∷ left)) now)
  | inr later ↦ one_more f second left (end_behind test f second left later)
]

-- what a pattern does whose first byte is no star
no_star : (byte : ℕ) (rest text : List ℕ) → nat_eq byte star ≡ false → fits (byte ∷ rest) text ≡ fits_next (passes byte) (fits rest) text
no_star byte rest text other = ap (λ b. if b then fits_later (fits rest) text else fits_next (passes byte) (fits rest) text) other

-- the pattern and the text agree so far
pub record SoFar (pattern text tail ending : List ℕ) : Type 0 where
  pub same : fits pattern text ≡ fits tail ending
  pub later : fits_later (fits pattern) text ≡ true → fits_later (fits tail) ending ≡ true
  pub shorter : length tail ≤ length pattern

pub begins : (pattern text : List ℕ) → SoFar pattern text pattern text
begins pattern text = record { same = refl; later = λ h. h; shorter = omega arith }

pub goes_on : (pattern text rest left : List ℕ) (byte first : ℕ) → SoFar pattern text (byte ∷ rest) (first ∷ left) → nat_eq byte star ≡ false → passes byte first ≡ true → SoFar pattern text rest left
goes_on pattern text rest left byte first so_far other passing = record {
  same = so_far.same ∙ no_star byte rest (first ∷ left) other ∙ ap (λ b. b && fits rest left) passing;
  later = λ h. end_behind (passes byte) (fits rest) first left (sym (same_ends (fits (byte ∷ rest)) (fits_next (passes byte) (fits rest)) (λ t. no_star byte rest t other) (first ∷ left)) ∙ so_far.later h);
  shorter = omega (arith, so_far.shorter);
}

pub at_star : (pattern text rest left : List ℕ) → SoFar pattern text (star ∷ rest) left → GoesOn pattern text rest left
at_star pattern text rest left so_far = record {
  same = so_far.same;
  later = λ h. end_of_end (fits rest) left (so_far.later h);
  shorter = omega (arith, so_far.shorter);
}

pub too_short : (pattern text rest : List ℕ) (byte : ℕ) → SoFar pattern text (byte ∷ rest) [] → nat_eq byte star ≡ false → fits pattern text ≡ false
too_short pattern text rest byte so_far other = so_far.same ∙ no_star byte rest [] other

pub other_byte : (pattern text rest left : List ℕ) (byte first : ℕ) → SoFar pattern text (byte ∷ rest) (first ∷ left) → nat_eq byte star ≡ false → passes byte first ≡ false → fits pattern text ≡ false
other_byte pattern text rest left byte first so_far other failing = so_far.same ∙ no_star byte rest (first ∷ left) other ∙ ap (λ b. b && fits rest left) failing

pub at_end : (pattern text : List ℕ) → SoFar pattern text [] [] → fits pattern text ≡ true
at_end pattern text so_far = so_far.same

pub too_long : (pattern text left : List ℕ) (first : ℕ) → SoFar pattern text [] (first ∷ left) → fits pattern text ≡ false
too_long pattern text left first so_far = so_far.same

-- an end that does not fit is passed over
pub one_end_less : (pattern left : List ℕ) (first : ℕ) → fits pattern (first ∷ left) ≡ false → fits_later (fits pattern) (first ∷ left) ≡ fits_later (fits pattern) left
one_end_less pattern left first differs = ap (λ b. b || fits_later (fits pattern) left) differs

-- behind a star the ends of what is left are enough
pub skips : (pattern text rest left : List ℕ) → GoesOn pattern text rest left → fits_later (fits pattern) text ≡ fits_later (fits rest) left
skips pattern text rest left on = same_truth (fits_later (fits pattern) text) (fits_later (fits rest) left) on.later (λ h. at_once (fits pattern) text (on.same ∙ h))

-- the steps, from what was split
pub star_split : (pattern text tail ending rest : List ℕ) (byte : ℕ) → SoFar pattern text tail ending → tail ≡ byte ∷ rest → byte ≡ star → GoesOn pattern text rest ending
star_split pattern text tail ending rest byte so_far split is = at_star pattern text rest ending (subst (λ b. SoFar pattern text (b ∷ rest) ending) is (subst (λ t. SoFar pattern text t ending) split so_far))

pub byte_split : (pattern text tail ending rest left : List ℕ) (byte first : ℕ) → SoFar pattern text tail ending → tail ≡ byte ∷ rest → ending ≡ first ∷ left → nat_eq byte star ≡ false → passes byte first ≡ true
    → SoFar pattern text rest left
byte_split pattern text tail ending rest left byte first so_far split ends other passing =
    goes_on pattern text rest left byte first (subst (λ e. SoFar pattern text (byte ∷ rest) e) ends (subst (λ t. SoFar pattern text t ending) split so_far)) other passing

pub skip_star : (pattern text ending rest left : List ℕ) → fits_later (fits pattern) text ≡ fits_later (fits pattern) ending → GoesOn pattern ending rest left → SkipsOn pattern text rest left
skip_star pattern text ending rest left same on = record { same = same ∙ skips pattern ending rest left on; shorter = on.shorter }

pub fits_there : (pattern text ending : List ℕ) → fits_later (fits pattern) text ≡ fits_later (fits pattern) ending → fits pattern ending ≡ true → fits_later (fits pattern) text ≡ true
fits_there pattern text ending same fitting = same ∙ at_once (fits pattern) ending fitting
