use Rattle.std.proofs.Common.{ℕ, List, sym, subst}
use Rattle.rpc_session.specs.declared.session.Session.{Session}
use Rattle.rpc_session.specs.SessionList.{SessionList}
use Rattle.rpc_session.specs.Serve as spec
use Rattle.rpc_session.proofs.ServeLemmas.{present_at}
use Rattle.rpc_session.proofs.sessions.Sessions.present.Goals as goal

abbrev the_list : ℕ → List Session → SessionList
the_list next sessions = record { sessions = sessions; next = next }

pub returns-in-Ok-clause-found : goal.returns-in-Ok-clause-found
returns-in-Ok-clause-found c =
    let at = rw c.deref.ensures.value at c.in-Ok.ensures.found in
    let list = the_list c.self.inside.next c.self.inside.rows.items in
    rw (sym c.self.view_is) (subst (λ o. spec.Stands list c.in-Ok.place (spec.present o list)) (sym c.in-Some.is) (present_at list c.in-Some.sid c.in-Ok.place c.self.invariant.rise at))
