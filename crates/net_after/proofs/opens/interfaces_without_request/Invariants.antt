use Rattle.std.proofs.Common.{◌≡◌, ◌++◌}
use Rattle.std.specs.Prelude.{filter, is_none}
use Rattle.std.specs.Vec.Iter.{into_iter_items}
use Rattle.net_rules.specs.Inputs.{open_interface}
use Rattle.net_after.proofs.opens.interfaces_without_request.Given as goal

-- the needs so far that have no request, and those of the others
abbrev pub invariant-loop-request : goal.invariant-loop-request
invariant-loop-request l = l.requests ++ filter (λ request. is_none (open_interface l.current request.name)) (into_iter_items l.request-iterator) ≡ filter (λ request. is_none (open_interface l.current request.name)) l.fn.needs
