-- What stands in front of some bytes, as far as they tell.
use Rattle.std.specs.Prelude.{ℕ, ◌+◌, ◌<◌, ◌≤◌, List, ◌++◌, length, ⊤}
use Rattle.http_requests.specs.declared.front.Front.{Front}
use Rattle.http_requests.specs.declared.front.Look.{Look}
use Rattle.http_requests.specs.declared.front.Look.TheVariants.{Decided, Waiting}
use Rattle.http_requests.specs.Front.{IsUnfinished}

-- P of what is decided
abbrev pub IfDecided : Look → (Front → Type 0) → Type 0
IfDecided (Decided front) P = P front
IfDecided (Waiting wanted) P = ⊤

-- P of how many bytes are waited for
abbrev pub IfWaiting : Look → (ℕ → Type 0) → Type 0
IfWaiting (Decided front) P = ⊤
IfWaiting (Waiting wanted) P = P wanted

-- with whatever bytes behind them, these are unfinished as long as they are fewer than `wanted`
pub record Awaits (bytes : List ℕ) (wanted : ℕ) : Type 0 where
  pub unfinished : (more : List ℕ) → length (bytes ++ more) < wanted → IsUnfinished (bytes ++ more)
  pub more : length bytes < wanted
  pub bounded : wanted ≤ 8192 + 1048576
