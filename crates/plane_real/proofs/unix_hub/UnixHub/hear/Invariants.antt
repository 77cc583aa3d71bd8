use Rattle.std.proofs.Common.{◌≡◌, ◌≤◌, vec_len}
use Rattle.plane_real.proofs.unix_hub.UnixHub.hear.Given as goal

-- the buffer keeps its size, no fault is counted, and the names stay
abbrev pub invariant-loop : goal.invariant-loop
invariant-loop l = record {
  size : vec_len l.piece ≤ 65536;
  faults : l.self.faults ≡ l.fn.self.faults;
  user : l.self.user ≡ l.fn.self.user;
  group : l.self.group ≡ l.fn.self.group;
}
