use Rattle.std.proofs.Common.{List, refl, ap}
use Rattle.std.specs.Prelude.{remove}
use Rattle.ubus_table.specs.Table.{Table, Call}
use Rattle.ubus_state.specs.declared.calls.OpenCall.{OpenCall}
use Rattle.ubus_state.specs.Calls.{call_of, calls_of}
use Rattle.ubus_state.specs.State as state
use Rattle.ubus_requests.proofs.AnswerLemmas.{call_at}
use Rattle.ubus_broker.specs.Did.{table_of}
use Rattle.ubus_broker.proofs.DidLemmas.{reply_did}
use Rattle.ubus_broker.proofs.broker.Broker.answer_at.Goals as goal

pub returns-clause-ok : goal.returns-clause-ok
returns-clause-ok c =
    let table : Table = table_of c.args.self.now in
    let call = c.args.call.now in
    let items : List OpenCall = c.args.self.now.bus.calls.rows.items in
    let kept : OpenCall = c.index.result.now in
    reply_did table (record table { calls = calls_of c.remove.new.self.rows.items }) call.caller call.seq call.object c.args.status c.args.payload c.args.place (call_of kept) c.in_ok-out.out refl c.requires.at
    (call_at items c.args.place kept c.index.ensures)
    (ap (λ (calls : List Call). record table { calls = calls }) c.remove.ensures)
    c.in_ok-out.ensures
