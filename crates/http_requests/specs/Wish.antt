-- What a head comes to: a refusal, or a body that is read; and whether the connection ends behind that.
use Rattle.std.specs.Prelude.{ℕ, List, Option, Some, None, Bool, not, map, codes, bytes_eq, if◌then◌else◌, nat_lt, ◌==◌}
use Rattle.std.specs.Prelude.{◌||◌}
use Rattle.httparse.specs.Grammar.{RequestHead}
use Rattle.httparse.specs.Spans.{name_and_value}
use Rattle.http_requests.specs.declared.status_code.StatusCode.TheVariants.{NotFound, MethodNotAllowed, LengthRequired}
use Rattle.http_requests.specs.declared.status_code.StatusCode.TheVariants.{ContentTooLarge}
use Rattle.http_requests.specs.declared.wish.Wish.{Wish}
use Rattle.http_requests.specs.declared.wish.Wish.TheVariants.{Refusal, Body}
use Rattle.http_requests.specs.declared.wish.TheConstants.{BODY_LIMIT}
use Rattle.http_requests.specs.Fields.{NamedValue, body_length, asks_for_close}

-- by the length of the body
abbrev pub wish_by_length : Option ℕ → Wish
wish_by_length None = Refusal LengthRequired
wish_by_length (Some size) = if nat_lt BODY_LIMIT size then Refusal ContentTooLarge else Body size

-- by the method, the target and the fields, in this order
abbrev pub wish : List ℕ → List ℕ → List NamedValue → Wish
wish method target fields =
    if not (bytes_eq method (codes "POST")) then Refusal MethodNotAllowed
    else (if not (bytes_eq target (codes "/ubus")) then Refusal NotFound
    else wish_by_length (body_length fields))

-- what a head comes to
abbrev pub wish_of : RequestHead → Wish
wish_of head = wish head.method head.target (map name_and_value head.fields)

-- the connection ends behind a request of HTTP/1.0, or one that asks for it
abbrev pub closes_after : ℕ → List NamedValue → Bool
closes_after minor fields = (minor == 0) || asks_for_close fields

-- the same of a head
abbrev pub closes_of : RequestHead → Bool
closes_of head = closes_after head.minor (map name_and_value head.fields)
