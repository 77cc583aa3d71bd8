use Rattle.std.proofs.Common.{◌+◌, ◌*◌, ◌≤◌, ◌∷◌, flat_map, take}
use Rattle.std.specs.Net.Text.{hex}
use Rattle.net_addr.specs.Appended.{Appends}
use Rattle.net_addr.proofs.print.append_groups.Given as goal

abbrev pub invariant-loop-group : goal.invariant-loop-group
invariant-loop-group l =
    Appends l.initial.into l.initial.end (flat_map (λ t. 58 ∷ hex t) (take l.group-index l.rest)) l.into l.end
    × (l.end ≤ l.initial.end + 5 * l.group-index)
