use Rattle.std.proofs.Common.{◌≡◌, ◌++◌, List, [], OnOk, subst, ap, ◌∙◌}
use Rattle.ubus_table.specs.Table.{Table}
use Rattle.ubus_table.specs.Frames.{Sent}
use Rattle.ubus_table.specs.Objects.{object_left}
use Rattle.ubus_send.specs.Fits.{fits}
use Rattle.ubus_send.specs.Out.{out_of}
use Rattle.ubus_state.specs.declared.calls.OpenCall.{OpenCall}
use Rattle.ubus_state.specs.Calls.{calls_of}
use Rattle.ubus_state.specs.State.{table_of}
use Rattle.ubus_state.specs.Leaving.{partly}
use Rattle.ubus_state.proofs.LeaveLemmas.{none_left}
use Rattle.ubus_state.proofs.bus.Bus.tell_left.Goals as goal

pub returns : goal.returns
returns c =
    let bus = c.args.self.now in
    let table : Table = table_of bus in
    let told : List OpenCall → List Sent = λ calls. (object_left fits (partly table [] table.subscriptions (calls_of calls)) c.args.number).sent in
    subst (λ (sent : List Sent). OnOk c.tell_left_of.result (c.tell_left_of.new.out ≡ c.args.out.now ++ out_of sent))
    (ap told c.deref.ensures.value
    ∙ ap (λ (t : Table). (object_left fits t c.args.number).sent) (none_left table))
    c.tell_left_of.ensures
