use Rattle.std.proofs.Common.{sym, ◌∙◌}
use Rattle.ubus_state.specs.Calls.{call_number}
use Rattle.ubus_state.proofs.PlaceLemmas.{place_at, place_over}
use Rattle.ubus_state.proofs.call_rows.place_numbered.Goals as goal

pub returns-in-Some-clause-place : goal.returns-in-Some-clause-place
returns-in-Some-clause-place c = c.place_if.ensures ∙ sym (place_at call_number c.args.number c.args.calls.now c.lower_calls-place.result c.in-Some.call c.requires c.lower_calls-place.ensures c.in-Some.ensures.lookup)

pub returns-in-None-clause-place : goal.returns-in-None-clause-place
returns-in-None-clause-place c = sym (place_over call_number c.args.number c.args.calls.now c.lower_calls-place.result c.lower_calls-place.ensures c.in-None.ensures.lookup)
