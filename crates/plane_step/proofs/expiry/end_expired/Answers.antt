use Rattle.std.proofs.Common.{ℕ, ◌≡◌, Some, ap, sym, subst, ◌∙◌}
use Rattle.uci_store.specs.Store.{staged_in}
use Rattle.rpc_session.specs.SessionList.{SessionList}
use Rattle.rpc_session.specs.Sessions.{first_expired}
use Rattle.plane_step.specs.Expiry.{Goes}
use Rattle.plane_step.proofs.ExpiryLemmas.{one_more, destroyed_done, destroyed_not, destroyed_shorter, kept_is_default, stays_itself, stays_both}
use Rattle.plane_step.proofs.expiry.end_expired.Goals as goal

pub loop-id-init : goal.loop-id-init
loop-id-init c = record {
  goes = Goes.none c.args.sessions.now (staged_in c.args.store.now);
  stays = stays_itself c.args.store.now;
}

pub loop-id-preserved : goal.loop-id-preserved
loop-id-preserved c = record {
  goes = one_more c.args.now c.in-Some.id c.args.sessions.now c.loop-id.sessions c.destroy.new.self
      (staged_in c.args.store.now) (staged_in c.loop-id.store) (staged_in c.forget.new.self)
      c.loop-id.invariant.goes (sym c.in-Some.ensures)
      (destroyed_done c.in-Some.id c.in-Ok.field-0 c.loop-id.sessions c.destroy.new.self c.in-Ok.ensures.done)
      c.forget.ensures.staged;
  stays = stays_both c.args.store.now c.loop-id.store c.forget.new.self c.loop-id.invariant.stays
      (record {
        names = c.forget.ensures.names;
        snap = c.forget.ensures.snap;
        failed = c.forget.ensures.failed;
        store = c.forget.ensures.store;
        own = c.forget.ensures.own;
        lines = c.forget.ensures.lines;
      });
}

pub loop-id-smaller : goal.loop-id-smaller
loop-id-smaller c =
    destroyed_shorter c.in-Some.id c.loop-id.sessions c.destroy.new.self
    (destroyed_done c.in-Some.id c.in-Ok.field-0 c.loop-id.sessions c.destroy.new.self c.in-Ok.ensures.done)

pub returns-in_default-destroy-clause-goes : goal.returns-in_default-destroy-clause-goes
returns-in_default-destroy-clause-goes c =
    subst (λ (list : SessionList). Goes c.args.now c.args.sessions.now (staged_in c.args.store.now) list (staged_in c.loop-id.store))
    (sym (destroyed_not c.in-Some.id c.destroy.result c.loop-id.sessions c.destroy.new.self
    c.in_default-destroy.not-Ok c.destroy.ensures.done))
    c.loop-id.invariant.goes

pub returns-clause-live : goal.returns-clause-live
returns-clause-live c = sym c.next_expired.ensures ∙ c.in_default.is

pub returns-in_default-destroy-clause-lacks : goal.returns-in_default-destroy-clause-lacks
returns-in_default-destroy-clause-lacks c =
    let first : first_expired c.args.now c.loop-id.sessions.sessions ≡ Some c.in-Some.id = sym c.in-Some.ensures in
    let zero : c.in-Some.id ≡ 0 =
    kept_is_default c.args.now c.in-Some.id c.destroy.result c.loop-id.sessions c.destroy.new.self first
    c.in_default-destroy.not-Ok c.destroy.ensures.done in
    subst (λ (list : SessionList). first_expired c.args.now list.sessions ≡ Some 0)
    (sym (destroyed_not c.in-Some.id c.destroy.result c.loop-id.sessions c.destroy.new.self
    c.in_default-destroy.not-Ok c.destroy.ensures.done))
    (first ∙ ap (λ (id : ℕ). Some id) zero)
