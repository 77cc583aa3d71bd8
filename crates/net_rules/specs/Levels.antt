-- A test of names that asks itself about other names, by plain recursion as many levels far as a
-- number says.
use Rattle.std.specs.Prelude.{ℕ, zero, suc, List, Bool, false}

unfoldable pub by_levels : ℕ → ((List ℕ → Bool) → List ℕ → Bool) → List ℕ → Bool
by_levels zero step name = false
by_levels (suc levels) step name = step (by_levels levels step) name
