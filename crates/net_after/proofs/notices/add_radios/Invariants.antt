use Rattle.std.proofs.Common.{◌≡◌, ◌++◌, map, drop}
use Rattle.std.specs.Prelude.{filter, nat_le}
use Rattle.net_rules.specs.Notices.{radio_notice}
use Rattle.net_after.proofs.notices.add_radios.Given as goal

-- the notices so far, and those of the requests that are left
abbrev pub invariant-loop-asked : goal.invariant-loop-asked
invariant-loop-asked l = l.notices ++ map (radio_notice l.conf) (filter (λ o. nat_le l.next o.number) (drop l.asked-index l.current)) ≡ l.fn.notices ++ map (radio_notice l.conf) (filter (λ o. nat_le l.next o.number) l.current)
