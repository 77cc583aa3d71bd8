-- How a pattern with `*` and `?` goes on behind its first `*`.
use Rattle.std.specs.Prelude.{ℕ, ◌≡◌, ◌<◌, List, Bool, true, ◌||◌, nat_eq, length}
use Rattle.plane_words.specs.Pattern.{fits, fits_later, question_mark}

-- a byte of a pattern that is no `*` passes a byte: `?` passes any, and another one itself
abbrev pub passes : ℕ → ℕ → Bool
passes byte first = nat_eq byte question_mark || nat_eq byte first

-- The pattern fits exactly where its rest, behind a `*`, fits some end of what is left of the text. Where the pattern
-- fits some end of the text, its rest fits some end of what is left.
pub record GoesOn (pattern text rest left : List ℕ) : Type 0 where
  pub same : fits pattern text ≡ fits_later (fits rest) left
  pub later : fits_later (fits pattern) text ≡ true → fits_later (fits rest) left ≡ true
  pub shorter : length rest < length pattern

-- the pattern fits some end of the text exactly where its rest, behind a `*`, fits some end of what is left
pub record SkipsOn (pattern text rest left : List ℕ) : Type 0 where
  pub same : fits_later (fits pattern) text ≡ fits_later (fits rest) left
  pub shorter : length rest < length pattern
