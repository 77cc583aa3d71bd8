use Rattle.std.proofs.Common.{◌≡◌, ◌+◌, ◌++◌, map, take}
use Rattle.std.specs.VecDeque.{deque_len, deque_capacity}
use Rattle.net_rules.specs.declared.event.Notice.TheVariants as notice
use Rattle.state_requests.proofs.telling.tell_all.Given as goal

-- the numbers so far were told
abbrev pub invariant-loop-number : goal.invariant-loop-number
invariant-loop-number l = record {
  told : l.notices.items ≡ l.initial.notices.items ++ map notice.Dropped (take l.number-index l.lost);
  len : deque_len l.notices ≡ deque_len l.initial.notices + l.number-index;
  capacity : deque_capacity l.notices ≡ deque_capacity l.initial.notices;
}
