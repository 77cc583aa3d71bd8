use Rattle.std.proofs.Common.{ℕ, List, Bool, take}
use Rattle.std.specs.Prelude.{◌||◌, bytes_eq}
use Rattle.std.specs.List.{list_any}
use Rattle.net_reach.specs.Groups.{Groups, Gains, AreBelow}
use Rattle.net_reach.proofs.above.add_each.Given as goal

-- the place came to the names so far
abbrev pub invariant-loop-name : goal.invariant-loop-name
invariant-loop-name l = (before : Groups) (at : List ℕ → Bool) → AreBelow before l.place → Gains before l.initial.above at l.place → Gains before l.above (λ q. at q || list_any (λ n. bytes_eq n q) (take l.name-index l.names)) l.place
