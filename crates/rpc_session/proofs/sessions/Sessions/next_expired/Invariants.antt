use Rattle.std.proofs.Common.{◌≡◌, drop}
use Rattle.rpc_session.specs.Sessions as spec
use Rattle.rpc_session.proofs.sessions.Sessions.next_expired.Given as goal

-- none so far has expired
abbrev pub invariant-loop-session : goal.invariant-loop-session
invariant-loop-session l = spec.first_expired l.now (drop l.session-index l.self.sessions) ≡ spec.first_expired l.now l.self.sessions
