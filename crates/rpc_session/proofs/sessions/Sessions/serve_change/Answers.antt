use Rattle.std.proofs.Common.{ap, sym, ◌∙◌}
use Rattle.rpc_session.specs.Arguments.{id_in}
use Rattle.rpc_session.specs.Serve as spec
use Rattle.rpc_session.proofs.SessionListLemmas.{order_set, same_id}
use Rattle.rpc_session.proofs.AlteredLemmas.{altered_by}
use Rattle.rpc_session.proofs.sessions.Sessions.serve_change.Goals as goal

pub invariant_of-self-in-Ok : goal.invariant_of-self-in-Ok
invariant_of-self-in-Ok c =
    let stands = rw (sym c.self.view_is) at c.in-Ok.ensures.found in
    order_set c.self.inside.rows.items c.self.inside.next c.in-Ok.place _ c.self.invariant (c.alter.ensures.id ∙ same_id c.self.inside.rows.items c.in-Ok.place c.index_mut.result.now stands.in_range c.index_mut.ensures.value)
    stands.in_range

pub returns-in_ok-alter-in-Ok-clause-done : goal.returns-in_ok-alter-in-Ok-clause-done
returns-in_ok-alter-in-Ok-clause-done c other =
    altered_by c.args.change c.args.args.now c.in-Ok.place (spec.session_for c.args.change c.session_named.result c.args.now c.args.self.now) c.index_mut.result.now c.alter.new.self
    (record { sessions = c.self.inside.rows.items; next = c.self.inside.next }) c.args.self.now c.self.view_is c.self.invariant.rise
    (spec.session_for c.args.change (id_in c.args.args.now) c.args.now c.args.self.now) c.new.result (ap (λ id. spec.session_for c.args.change id c.args.now c.args.self.now) c.session_named.ensures) c.new.ensures c.in-Ok.ensures.found
    c.index_mut.ensures.value c.alter.ensures.id (c.in_ok-alter-in-Ok.ensures.done (λ n. let m = n in cc))
