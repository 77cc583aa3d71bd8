use Rattle.std.proofs.Common.{◌≡◌, List, Bool, Some, sym, ◌∙◌}
use Rattle.std.specs.List.{find}
use Rattle.ubus_table.specs.Calls.{is_answered}
use Rattle.ubus_state.specs.declared.calls.OpenCall.{OpenCall}
use Rattle.ubus_state.specs.Calls.{call_number, call_of}
use Rattle.ubus_state.proofs.ListLemmas.{position_of_map}
use Rattle.ubus_state.proofs.PlaceLemmas.{place_first, place_none}
use Rattle.ubus_state.specs.State.{table_of}
use Rattle.ubus_requests.proofs.calls.answered.Goals as goal

pub returns-in-Some-clause-place : goal.returns-in-Some-clause-place
returns-in-Some-clause-place c =
    let rows : List OpenCall = c.args.bus.now.calls.rows.items in
    let passes : OpenCall → Bool = λ call. is_answered (table_of c.args.bus.now) c.args.client c.args.frame.now (call_of call) in
    let found : find passes rows ≡ Some c.in-Some.call = sym c.answered_call.ensures ∙ c.in-Some.is in
    c.place_of.ensures.place
    ∙ place_first call_number passes rows c.in-Some.call c.args.bus.now.calls.tied.rising.0 found
    ∙ sym (position_of_map (is_answered (table_of c.args.bus.now) c.args.client c.args.frame.now) call_of rows)

pub returns-in-None-clause-place : goal.returns-in-None-clause-place
returns-in-None-clause-place c =
    let rows : List OpenCall = c.args.bus.now.calls.rows.items in
    let passes : OpenCall → Bool = λ call. is_answered (table_of c.args.bus.now) c.args.client c.args.frame.now (call_of call) in
    sym (position_of_map (is_answered (table_of c.args.bus.now) c.args.client c.args.frame.now) call_of rows ∙ place_none passes rows (sym c.answered_call.ensures ∙ c.in-None.is))
