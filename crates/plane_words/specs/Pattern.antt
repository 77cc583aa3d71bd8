-- Patterns of names: with a last `*` that stands for any rest (ubus access lists), and with `*` and `?` anywhere
-- (rpcd's access lists, after POSIX pathname patterns without brackets).
use Rattle.std.specs.Prelude.{ℕ, ◌≡◌, List, [], ◌∷◌, ◌++◌, Bool, true, false, ◌&&◌, ◌||◌, nat_eq, MatchBool}
use Rattle.std.specs.Prelude.{if◌then◌else◌}

-- `*`
abbrev pub star : ℕ
star = 42

-- `?`
abbrev pub question_mark : ℕ
question_mark = 63

-- the text is empty
abbrev pub is_nothing : List ℕ → Bool
is_nothing [] = true
is_nothing (byte ∷ bytes) = false

-- a pattern that ends with `*` fits the texts that begin with what stands before it, and any other fits itself alone
abbrev pub fits_front : List ℕ → List ℕ → Bool
fits_front [] text = is_nothing text
fits_front (byte ∷ pattern) [] = nat_eq byte star && is_nothing pattern
fits_front (byte ∷ pattern) (first ∷ rest) = (nat_eq byte star && is_nothing pattern)
    || (nat_eq byte first && fits_front pattern rest)

-- The pattern fits the text: `*` stands for any bytes, perhaps none, `?` for one byte, and any other byte for itself.
abbrev pub Fits : List ℕ → List ℕ → Type 0
Fits [] text = text ≡ []
Fits (byte ∷ pattern) text =
    MatchBool (nat_eq byte star)
    ((skipped : List ℕ) × (rest : List ℕ) × (text ≡ skipped ++ rest) × Fits pattern rest)
    ((first : ℕ) × (rest : List ℕ) × (text ≡ first ∷ rest) × ((nat_eq byte question_mark || nat_eq byte first) ≡ true)
    × Fits pattern rest)

-- the rest of a pattern after `*` fits the text, or the text without some bytes in front
abbrev pub fits_later : (List ℕ → Bool) → List ℕ → Bool
fits_later rest_fits [] = rest_fits []
fits_later rest_fits (byte ∷ bytes) = rest_fits (byte ∷ bytes) || fits_later rest_fits bytes

-- the rest of a pattern fits what stands after one byte, which passes a test
abbrev pub fits_next : (ℕ → Bool) → (List ℕ → Bool) → List ℕ → Bool
fits_next passes rest_fits [] = false
fits_next passes rest_fits (byte ∷ bytes) = passes byte && rest_fits bytes

-- the test of it, which computes
abbrev pub fits : List ℕ → List ℕ → Bool
fits [] text = is_nothing text
fits (byte ∷ pattern) text =
    if nat_eq byte star then fits_later (fits pattern) text
    else fits_next (λ first. nat_eq byte question_mark || nat_eq byte first) (fits pattern) text
