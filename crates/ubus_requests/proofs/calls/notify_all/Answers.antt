use Rattle.std.proofs.Common.{ℕ, ◌++◌, List, [], refl, sym, ap, ◌∙◌}
use Rattle.std.specs.List.{flat_map}
use Rattle.ubus_frames.specs.declared.frame.Frame.{Frame}
use Rattle.ubus_table.specs.Table.{Table, Call, owner_of}
use Rattle.ubus_table.specs.declared.rows.Client.{Client}
use Rattle.ubus_table.specs.Frames.{Sent, to_owner}
use Rattle.ubus_table.specs.Refusal.{numbered}
use Rattle.ubus_table.specs.Objects.{told}
use Rattle.ubus_table.specs.Calls.{passed_on, opened, told_subscribers}
use Rattle.ubus_send.specs.declared.outbox.Outgoing.{Outgoing}
use Rattle.ubus_send.specs.Fits.{fits}
use Rattle.ubus_send.specs.Out.{out_of}
use Rattle.ubus_send.proofs.OutLemmas.{out_more}
use Rattle.ubus_state.specs.declared.calls.OpenCall.{OpenCall}
use Rattle.ubus_state.specs.Calls.{calls_of}
use Rattle.ubus_state.specs.State.{table_of}
use Rattle.ubus_requests.proofs.calls.notify_all.Goals as goal

pub returns : goal.returns
returns c =
    let table : Table = table_of c.args.bus.now in
    let client : Client = c.args.client.now in
    let request : Frame = c.args.request.now in
    let subscribers : List ℕ = c.args.subscribers.now in
    let told : List Sent = told_subscribers fits client request c.args.object subscribers in
    let more : List Sent = flat_map (λ subscriber. to_owner fits (owner_of table subscriber) (passed_on client request subscriber)) subscribers in
    record {
      table = ap (λ (calls : List Call). record table { calls = table.calls ++ calls })
          (c.in_ok-pass_on_all.ensures.calls ∙ ap (λ (calls : List OpenCall). calls_of calls ++ opened fits table client request subscribers) c.new-calls.ensures.items);
      sent = c.in_ok-pass_on_all.ensures.out ∙ (ap (λ (out : List Outgoing). out ++ out_of more) c.in_ok-out.ensures ∙ sym (out_more [] told more));
      handed = refl;
      possible = tt;
    }
