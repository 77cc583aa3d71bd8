use Rattle.std.proofs.Common.{◌≡◌, ◌++◌}
use Rattle.std.specs.Prelude.{filter}
use Rattle.std.specs.Vec.Iter.{into_iter_items}
use Rattle.net_rules.specs.Need.{same_interface_request}
use Rattle.net_rules.specs.After.{is_same_need}
use Rattle.net_view.specs.Places.{named}
use Rattle.net_after.proofs.drops.kept_interfaces.Given as goal

-- the requests so far that stay, and those of the others
abbrev pub invariant-loop-asked : goal.invariant-loop-asked
invariant-loop-asked l = l.kept ++ filter (λ o. is_same_need same_interface_request (named (λ request. request.name) l.needs o.request.name) o.request) (into_iter_items l.asked-iterator)
    ≡ filter (λ o. is_same_need same_interface_request (named (λ request. request.name) l.needs o.request.name) o.request) l.fn.current
