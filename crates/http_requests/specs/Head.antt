-- Heads in front of bytes: at most 8,192 bytes and 64 fields, as `httparse` reads them.
use Rattle.std.specs.Prelude.{ℕ, ◌≡◌, ◌≤◌, ◌<◌, List, ◌++◌, Bool, length}
use Rattle.httparse.specs.Grammar.{RequestHead, ReadsRequest, HasNoRequest, MayBecomeRequest, print_request}
use Rattle.http_requests.specs.declared.head.Head.{Head}
use Rattle.http_requests.specs.declared.head.Head.TheVariants.{Read, Open, Never}
use Rattle.http_requests.specs.declared.wish.Wish.{Wish}
use Rattle.http_requests.specs.Wish.{wish_of, closes_of}

-- the bytes begin with a head of at most 8,192 bytes and 64 fields, and the rest follows
pub record BeginsWithHead (bytes : List ℕ) (head : RequestHead) (rest : List ℕ) : Type 0 where
  pub reads : ReadsRequest bytes head rest
  pub few : length head.fields ≤ 64
  pub short : length (print_request head) ≤ 8192

-- no front of the bytes is such a head
abbrev pub HasNoHead : List ℕ → Type 0
HasNoHead bytes = (head : RequestHead) (rest : List ℕ) → ¬ (BeginsWithHead bytes head rest)

-- fewer than 8,192 bytes of which no front is a head, while bytes may follow that make them one, or the target is
-- still being read
pub record MayBeHead (bytes : List ℕ) : Type 0 where
  pub short : length bytes < 8192
  pub none : HasNoRequest bytes
  pub open_end : MayBecomeRequest bytes

-- the bytes begin with a head of this size that comes to this, and behind whose request the connection ends or not
pub record HasHead (bytes : List ℕ) (size : ℕ) (wish : Wish) (closes : Bool) : Type 0 where
  pub head : RequestHead
  pub rest : List ℕ
  pub begins : BeginsWithHead bytes head rest
  pub size_is : size ≡ length (print_request head)
  pub wish_is : wish ≡ wish_of head
  pub closes_is : closes ≡ closes_of head

-- what stands in front of the bytes as the head of a request
abbrev pub IsHead : List ℕ → Head → Type 0
IsHead bytes (Read size wish closes) = HasHead bytes size wish closes
IsHead bytes Open = MayBeHead bytes
IsHead bytes Never = (more : List ℕ) → HasNoHead (bytes ++ more)
