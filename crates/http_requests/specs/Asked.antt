-- The requests of a connection, and how it ends. At most 100,000 requests are answered.
use Rattle.std.specs.Prelude.{ℕ, suc, ◌+◌, ◌≡◌, List, [], ◌∷◌, take, drop, true, false}
use Rattle.http_requests.specs.declared.connection_end.ConnectionEnd.{ConnectionEnd}
use Rattle.http_requests.specs.declared.connection_end.ConnectionEnd.TheVariants.{Closed, Refused as RefusedWith}
use Rattle.http_requests.specs.declared.front.Front.TheVariants.{End, Refused, Whole}
use Rattle.http_requests.specs.declared.front.Request.{Request}
use Rattle.http_requests.specs.declared.status_code.StatusCode.{StatusCode}
use Rattle.http_requests.specs.Front.{Begins}

-- the body of the request in front of the bytes
abbrev pub body_of : Request → List ℕ → List ℕ
body_of request bytes = take request.body_size (drop request.head_size bytes)

-- what follows that request
abbrev pub behind : Request → List ℕ → List ℕ
behind request bytes = drop (request.head_size + request.body_size) bytes

-- while so many requests may still be answered, the bytes are those of requests with these bodies, in this order, and
-- then the connection ends so
pub data AskedWithin : ℕ → List ℕ → List (List ℕ) → ConnectionEnd → Type 0 where
  -- no further request may be answered
  spent : (bytes : List ℕ) → AskedWithin 0 bytes [] Closed
  -- nothing is left
  ended : (left : ℕ) (bytes : List ℕ) → Begins bytes End → AskedWithin (suc left) bytes [] Closed
  -- what is left is refused
  refused : (left : ℕ) (bytes : List ℕ) (status : StatusCode)
      → Begins bytes (Refused status) → AskedWithin (suc left) bytes [] (RefusedWith status)
  -- a request behind which the connection ends
  last : (left : ℕ) (bytes : List ℕ) (request : Request)
      → Begins bytes (Whole request) → request.closes ≡ true
      → AskedWithin (suc left) bytes (body_of request bytes ∷ []) Closed
  -- a request, and what follows it
  another : (left : ℕ) (bytes : List ℕ) (request : Request) (bodies : List (List ℕ)) (end : ConnectionEnd)
      → Begins bytes (Whole request) → request.closes ≡ false
      → AskedWithin left (behind request bytes) bodies end
      → AskedWithin (suc left) bytes (body_of request bytes ∷ bodies) end

-- the bytes of a connection ask for these bodies, and then it ends so
abbrev pub Asked : List ℕ → List (List ℕ) → ConnectionEnd → Type 0
Asked = AskedWithin 100000
