use Rattle.std.proofs.Common.{◌≡◌, List, Bool, Some, sym, ◌∙◌}
use Rattle.std.specs.List.{find}
use Rattle.ubus_table.specs.Clients.{is_handed_out}
use Rattle.ubus_state.specs.declared.calls.OpenCall.{OpenCall}
use Rattle.ubus_state.specs.Calls.{call_number, call_of}
use Rattle.ubus_state.proofs.ListLemmas.{position_of_map}
use Rattle.ubus_state.proofs.PlaceLemmas.{place_first, place_none}
use Rattle.ubus_state.proofs.call_rows.CallRows.handed_out.Goals as goal

pub returns-in-Some-clause-place : goal.returns-in-Some-clause-place
returns-in-Some-clause-place c =
    let rows : List OpenCall = c.args.self.now.rows.items in
    let passes : OpenCall → Bool = λ call. is_handed_out c.args.caller c.args.seq c.args.object (call_of call) in
    let found : find passes rows ≡ Some c.in-Some.call = sym c.handed_out_call.ensures ∙ c.in-Some.is in
    c.place_of.ensures.place
    ∙ place_first call_number passes rows c.in-Some.call c.args.self.now.tied.rising.0 found
    ∙ sym (position_of_map (is_handed_out c.args.caller c.args.seq c.args.object) call_of rows)

pub returns-in-None-clause-place : goal.returns-in-None-clause-place
returns-in-None-clause-place c =
    let rows : List OpenCall = c.args.self.now.rows.items in
    let passes : OpenCall → Bool = λ call. is_handed_out c.args.caller c.args.seq c.args.object (call_of call) in
    sym (position_of_map (is_handed_out c.args.caller c.args.seq c.args.object) call_of rows ∙ place_none passes rows (sym c.handed_out_call.ensures ∙ c.in-None.is))
