use Rattle.std.proofs.Common.{ℕ, ◌≡◌, ◌==◌, List, drop}
use Rattle.std.specs.Prelude.{filter, not}
use Rattle.std.specs.List.{list_any}
use Rattle.std.specs.Ordering.{nat_cmp}
use Rattle.plane_words.specs.InOrder.{ordered}
use Rattle.net_after.specs.NumberSet.{HasNumbers}
use Rattle.net_after.proofs.notices.lost_numbers.Given as goal

-- the lost ones of the numbers from here on
abbrev pub invariant-loop-place : goal.invariant-loop-place
invariant-loop-place l = (numbers : List ℕ) → HasNumbers numbers l.current → l.lost.keys ≡ ordered nat_cmp (filter (λ n. not (list_any (λ m. m == n) numbers)) (drop l.place l.before))
