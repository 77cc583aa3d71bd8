use Rattle.std.proofs.Common.{◌≡◌, ◌++◌, map, drop}
use Rattle.std.specs.Prelude.{filter, not}
use Rattle.net_rules.specs.Need.{wifi_request}
use Rattle.net_after.proofs.needs.wifi_requests.Given as goal

-- the requests so far, and those of the rows that are left
abbrev pub invariant-loop-row : goal.invariant-loop-row
invariant-loop-row l = l.requests ++ map wifi_request (filter (λ row. not row.disabled) (drop l.row-index l.rows)) ≡ map wifi_request (filter (λ row. not row.disabled) l.rows)
