use Rattle.std.proofs.Common.{arith, sym}
use Rattle.rpc_session.proofs.SessionListLemmas.{order_set, same_id}
use Rattle.rpc_session.proofs.StepLemmas.{used_late, used_made}
use Rattle.rpc_session.proofs.sessions.Sessions.used.Goals as goal

pub returns-then-not-is_live-clause-done : goal.returns-then-not-is_live-clause-done
returns-then-not-is_live-clause-done c =
    let at = rw c.deref.ensures.value at c.in-Ok.ensures.found in
    rw (sym c.self.view_is) (used_late (record { sessions = c.self.inside.rows.items; next = c.self.inside.next }) c.args.sid c.args.now c.in-Ok.place c.index_mut-session.result.now c.self.invariant.rise at c.index_mut-session.ensures.value
    (grind (arith, c.is_live.ensures, c.if-not-is_live.true)))

pub invariant_of-self-2 : goal.invariant_of-self-2
invariant_of-self-2 c =
    let at = rw c.deref.ensures.value at c.in-Ok.ensures.found in
    order_set c.self.inside.rows.items c.self.inside.next c.in-Ok.place _ c.self.invariant (same_id c.self.inside.rows.items c.in-Ok.place c.index_mut-session.result.now at.in_range c.index_mut-session.ensures.value) at.in_range

pub returns-clause-done : goal.returns-clause-done
returns-clause-done c =
    let at = rw c.deref.ensures.value at c.in-Ok.ensures.found in
    rw (sym c.self.view_is) (used_made (record { sessions = c.self.inside.rows.items; next = c.self.inside.next }) c.args.sid c.args.now c.in-Ok.place c.index_mut-session.result.now c.self.invariant.rise at c.index_mut-session.ensures.value
    (grind (arith, c.is_live.ensures, c.if-not-is_live.false)))
