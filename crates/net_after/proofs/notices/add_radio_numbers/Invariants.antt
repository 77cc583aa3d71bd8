use Rattle.std.proofs.Common.{◌≡◌, ◌++◌, map, drop}
use Rattle.net_after.proofs.notices.add_radio_numbers.Given as goal

-- the numbers so far, and those of the requests that are left
abbrev pub invariant-loop-asked : goal.invariant-loop-asked
invariant-loop-asked l = l.numbers ++ map (λ o. o.number) (drop l.asked-index l.current) ≡ l.fn.numbers ++ map (λ o. o.number) l.current
