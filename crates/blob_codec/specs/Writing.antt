-- What the writer is given, and what it leaves.
use Rattle.std.specs.Prelude.{ℕ, suc, ◌≡◌, ◌<◌, List, length, get_or, take}
use Rattle.blob_codec.specs.declared.blob.Blob.{Blob}
use Rattle.blob_codec.specs.declared.blob.Attr.{Attr}
use Rattle.blob_codec.specs.Limits.{IsSized, Fits, FitsValue}

-- the attributes fit at some depth
pub record AllFit (attrs : List Attr) : Type 0 where
  pub levels : ℕ
  pub fit : Fits levels attrs

-- the value fits at some depth
pub record ValueFits (value : Blob) : Type 0 where
  pub levels : ℕ
  pub fits : FitsValue levels value

-- the attribute fits where at most so many arrays and tables stand within one another
pub record AttrFitsAt (levels : ℕ) (attr : Attr) : Type 0 where
  pub sized : IsSized attr
  pub fits : FitsValue levels attr.value

-- the attributes fit one level deeper
pub record FitDeeper (levels : ℕ) (attrs : List Attr) : Type 0 where
  pub fewer : ℕ
  pub level : levels ≡ suc fewer
  pub fit : Fits fewer attrs

-- the attribute fits at some depth
pub record AttrFits (attr : Attr) : Type 0 where
  pub sized : IsSized attr
  pub value : ValueFits attr.value

-- each of the attributes fits
abbrev pub EachFits : List Attr → Type 0
EachFits attrs = (k : ℕ) (attr : Attr) → k < length attrs → attr ≡ get_or attrs k attr → AttrFits attr

-- the new bytes begin with the old ones
abbrev pub BeginsWith : List ℕ → List ℕ → Type 0
BeginsWith new old = take (length old) new ≡ old
