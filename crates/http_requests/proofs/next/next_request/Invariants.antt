use Rattle.std.proofs.Common.{◌≡◌, ◌⊎◌, ◌+◌, ◌-◌, ◌<◌, ◌≤◌, true, length, if◌then◌else◌}
use Rattle.http_requests.specs.Look.{Awaits}
use Rattle.http_requests.specs.Next.{Keeps, IsEmpty, HasNoWhole}
use Rattle.http_requests.proofs.next.next_request.Given as goal

-- what was held and left is held and left; the source is untouched, or no whole request was held
abbrev pub invariant-loop-front : goal.invariant-loop-front
invariant-loop-front g l = record {
  kept : Keeps (g.S.Source.left l.fn.input) (g.S.Source.left l.input) l.fn.held l.held;
  ended : l.ended ≡ true → IsEmpty (g.S.Source.left l.input);
  waits : length l.held < l.wanted → Awaits l.held l.wanted;
  calm : ((l.input ≡ l.fn.input) × (l.held ≡ l.fn.held)) ⊎ HasNoWhole l.fn.held;
  bounded : length l.fn.held ≤ 1064960 → length l.held ≤ 1064960;
  later : g.S.Source.faults l.fn.input ≤ g.S.Source.faults l.input;
}

abbrev pub decreases-loop-front : goal.decreases-loop-front
decreases-loop-front g l = (1056768 - length l.held) + (if l.ended then 0 else 1)
