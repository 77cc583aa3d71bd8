-- What a source gives, and what is held of it.
use Rattle.std.specs.Prelude.{ℕ, ◌≡◌, List, [], ◌++◌, Option, Some, None, IfSome}
use Rattle.http_requests.specs.declared.front.Front.{Front}
use Rattle.http_requests.specs.Front.{Begins, IsWhole}

-- what was held and left is held and left now, where the source tells
abbrev pub Keeps : Option (List ℕ) → Option (List ℕ) → List ℕ → List ℕ → Type 0
Keeps None left_now held held_now = left_now ≡ None
Keeps (Some left) left_now held held_now = (rest : List ℕ) × (left_now ≡ Some rest) × (held_now ++ rest ≡ held ++ left)

-- nothing is left, where the source tells
abbrev pub IsEmpty : Option (List ℕ) → Type 0
IsEmpty left = IfSome left (λ bytes. bytes ≡ [])

-- this stands in front of what is held and left, where the source tells
abbrev pub StandsBefore : Option (List ℕ) → List ℕ → Front → Type 0
StandsBefore left held front = IfSome left (λ bytes. Begins (held ++ bytes) front)

-- no whole request is held
abbrev pub HasNoWhole : List ℕ → Type 0
HasNoWhole held = (front : Front) → Begins held front → IsWhole front → ⊥
