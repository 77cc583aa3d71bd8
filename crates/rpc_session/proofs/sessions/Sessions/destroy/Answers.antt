use Rattle.std.proofs.Common.{◌≡◌, ℕ, List, sym, ap}
use Rattle.rpc_session.specs.declared.session.Session.{Session}
use Rattle.rpc_session.specs.SessionList.{SessionList}
use Rattle.rpc_session.proofs.StepLemmas.{destroyed_made}
use Rattle.rpc_session.proofs.sessions.Sessions.destroy.Goals as goal

abbrev the_list : ℕ → List Session → SessionList
the_list next sessions = record { sessions = sessions; next = next }

with_rows : (next : ℕ) {one other : List Session} → one ≡ other → the_list next one ≡ the_list next other
with_rows next same = ap (the_list next) same

pub returns-clause-done : goal.returns-clause-done
returns-clause-done c =
    let at = rw c.deref.ensures.value at c.in-Ok.ensures.found in
    rw (sym c.self.view_is) (destroyed_made (record { sessions = c.self.inside.rows.items; next = c.self.inside.next }) c.args.sid 0 c.in-Ok.place _ c.self.invariant.rise c.if-sid-eq0.false at
    (with_rows c.self.inside.next c.remove.ensures.items))
