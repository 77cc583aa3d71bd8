use Rattle.std.proofs.Common.{sym}
use Rattle.rpc_session.specs.Session.{without_grant}
use Rattle.rpc_session.proofs.StepLemmas.{made_at}
use Rattle.rpc_session.proofs.sessions.Sessions.revoke.Goals as goal

pub returns-clause-done : goal.returns-clause-done
returns-clause-done c =
    let at = rw c.deref.ensures.value at c.in-Ok.ensures.found in
    rw (sym c.self.view_is) (made_at (record { sessions = c.self.inside.rows.items; next = c.self.inside.next }) c.args.sid 0 c.in-Ok.place (without_grant c.args.grant.now) c.index_mut.result.now c.take_out.new.self c.self.invariant.rise at
    c.index_mut.ensures.value c.take_out.ensures)
