use Rattle.std.proofs.Common.{◌≡◌, ◌==◌, List, [], None, true, IfOk, sym, ap, subst, ◌∙◌}
use Rattle.ubus_frames.specs.declared.frame.Frame.{Frame}
use Rattle.ubus_table.specs.Table.{Table}
use Rattle.ubus_table.specs.Frames.{Sent}
use Rattle.ubus_table.specs.Refusal.{Step}
use Rattle.ubus_send.specs.Fits.{fits}
use Rattle.ubus_send.specs.Out.{out_of}
use Rattle.ubus_state.specs.State.{table_of}
use Rattle.std.proofs.Common.{arith}
use Rattle.std.specs.Prelude.{vec_len}
use Rattle.std.proofs.lemmas.Bool.Decides.{nat_tests}
use Rattle.ubus_table.specs.Asked.{asked_for}
use Rattle.ubus_requests.proofs.AskedLemmas.{told_nothing, empty_of}
use Rattle.ubus_requests.proofs.asked.look_up.Goals as goal

pub returns-then-is_empty : goal.returns-then-is_empty
returns-then-is_empty c =
    let table : Table = table_of c.args.bus.now in
    let request : Frame = c.args.request.now in
    let test : (vec_len c.in_ok-told.told == 0) ≡ true = sym c.if-is_empty.ensures in
    let zero : vec_len c.in_ok-told.told ≡ 0 = grind (arith, nat_tests) in
    let none : c.in_ok-told.told.items ≡ [] = empty_of c.in_ok-told.told.items (omega arith) in
    subst (λ (sent : List Sent). IfOk c.refusal.result (λ out. out ≡ out_of sent))
    (sym (ap (λ (step : Step). step.sent) (told_nothing fits table c.args.client request (asked_for table request.path) (sym c.in_ok-told.ensures ∙ none))))
    (c.refusal.ensures None)
