-- What stands in front of the bytes that are left of a connection.
use Rattle.std.specs.Prelude.{ℕ, ◌≡◌, ◌≤◌, ◌<◌, List, [], ◌∷◌, length, ⊤}
use Rattle.httparse.specs.Grammar.{RequestHead, print_request}
use Rattle.http_requests.specs.declared.front.Front.{Front}
use Rattle.http_requests.specs.declared.front.Front.TheVariants.{End, Refused, Whole}
use Rattle.http_requests.specs.declared.front.Request.{Request}
use Rattle.http_requests.specs.declared.status_code.StatusCode.{StatusCode}
use Rattle.http_requests.specs.declared.status_code.StatusCode.TheVariants.{BadRequest}
use Rattle.http_requests.specs.declared.wish.Wish.TheVariants.{Refusal, Body}
use Rattle.http_requests.specs.Head.{BeginsWithHead, HasNoHead, MayBeHead}
use Rattle.http_requests.specs.Wish.{wish_of, closes_of}

-- the request of a head with a body of this size
abbrev pub request_of : RequestHead → ℕ → Request
request_of head size =
    record { head_size = length (print_request head); body_size = size; closes = closes_of head }

-- what stands in front of the bytes
pub data Begins : List ℕ → Front → Type 0 where
  -- nothing is left
  ends : Begins [] End
  -- bytes are left, and no front of them is a head
  no_head : (byte : ℕ) (bytes : List ℕ) → HasNoHead (byte ∷ bytes) → Begins (byte ∷ bytes) (Refused BadRequest)
  -- a head that is refused, whatever follows
  refused : (bytes : List ℕ) (head : RequestHead) (rest : List ℕ) (status : StatusCode)
      → BeginsWithHead bytes head rest → wish_of head ≡ Refusal status → Begins bytes (Refused status)
  -- a head, and fewer bytes than its body has
  cut : (bytes : List ℕ) (head : RequestHead) (rest : List ℕ) (size : ℕ)
      → BeginsWithHead bytes head rest → wish_of head ≡ Body size → length rest < size
      → Begins bytes (Refused BadRequest)
  -- a head, and its body
  whole : (bytes : List ℕ) (head : RequestHead) (rest : List ℕ) (size : ℕ)
      → BeginsWithHead bytes head rest → wish_of head ≡ Body size → size ≤ length rest
      → Begins bytes (Whole (request_of head size))

-- it is a whole request
abbrev pub IsWhole : Front → Type 0
IsWhole End = ⊥
IsWhole (Refused status) = ⊥
IsWhole (Whole request) = ⊤

-- more bytes are needed: none has come, a head may still come, or the body of a head is not there yet
pub data IsUnfinished : List ℕ → Type 0 where
  no_byte : IsUnfinished []
  in_head : (bytes : List ℕ) → MayBeHead bytes → IsUnfinished bytes
  in_body : (bytes : List ℕ) (head : RequestHead) (rest : List ℕ) (size : ℕ)
      → BeginsWithHead bytes head rest → wish_of head ≡ Body size → length rest < size → IsUnfinished bytes
