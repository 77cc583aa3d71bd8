use Rattle.std.proofs.Common.{length}
use Rattle.uci_store.specs.Store.{staged_in}
use Rattle.rpc_objects.specs.SessionCall.{StaysOpen}
use Rattle.plane_step.specs.Expiry.{Goes}
use Rattle.plane_step.proofs.expiry.end_expired.Given as goal

-- some sessions went
abbrev pub invariant-loop-id : goal.invariant-loop-id
invariant-loop-id l = record {
  goes : Goes l.now l.fn.sessions (staged_in l.fn.store) l.sessions (staged_in l.store);
  stays : StaysOpen l.fn.store l.store;
}

abbrev pub decreases-loop-id : goal.decreases-loop-id
decreases-loop-id l = length l.sessions.sessions
