use Rattle.std.proofs.Common.{ℕ, List, filter, sym, ap, ◌∙◌, append-nil, arith, false}
use Rattle.ubus_state.specs.declared.calls.OpenCall.{OpenCall}
use Rattle.ubus_state.specs.Calls.{calls_of, is_before}
use Rattle.ubus_state.proofs.CallLemmas.{added_more}
use Rattle.ubus_state.proofs.NamedLemmas.{before_next, before_pushed}
use Rattle.ubus_state.proofs.call_rows.CallRows.push_all.Goals as goal

pub loop-call-init : goal.loop-call-init
loop-call-init c = record {
  later = omega arith;
  before = before_next c.args.self.now.rows.items c.args.self.now.next c.args.self.now.tied.rising;
  added = sym (append-nil (calls_of c.args.self.now.rows.items));
}

pub loop-call-preserved : goal.loop-call-preserved
loop-call-preserved c =
    let first : ℕ = c.args.self.now.next in
    let rows : List OpenCall = c.loop-call.self.rows.items in
    let none : OpenCall = record { caller = 0; seq = 0; number = 0; object = 0; no_reply = false } in
    record {
      later = omega (arith, c.loop-call.invariant.later, c.in-Ok.ensures.next);
      before = ap (filter (is_before first)) c.in-Ok.ensures.rows ∙ before_pushed first rows _ c.loop-call.invariant.later ∙ c.loop-call.invariant.before;
      added = c.in-Ok.ensures.ok ∙ added_more (calls_of c.args.self.now.rows.items) (calls_of rows) c.args.calls.now c.loop-call.call-index none (omega arith) c.loop-call.invariant.added;
    }
