use Rattle.std.proofs.Common.{◌≡◌, ◌++◌, drop}
use Rattle.std.specs.List.{flat_map}
use Rattle.ubus_table.specs.Table.{owner_of}
use Rattle.ubus_table.specs.Frames.{to_owner}
use Rattle.ubus_table.specs.Calls.{opened, passed_on}
use Rattle.ubus_send.specs.Fits.{fits}
use Rattle.ubus_state.specs.State.{table_of}
use Rattle.ubus_state.specs.Calls.{calls_of}
use Rattle.ubus_send.specs.Out.{out_of}
use Rattle.ubus_requests.proofs.calls.pass_on_all.Given as goal

-- what is sent and opened so far, and what is left
abbrev pub invariant-loop-object : goal.invariant-loop-object
invariant-loop-object l = record {
  out : l.out ++ out_of (flat_map (λ object. to_owner fits (owner_of (table_of l.bus) object) (passed_on l.client l.request object)) (drop l.object-index l.objects))
      ≡ l.fn.out ++ out_of (flat_map (λ object. to_owner fits (owner_of (table_of l.bus) object) (passed_on l.client l.request object)) l.objects);
  calls : calls_of l.calls.items ++ opened fits (table_of l.bus) l.client l.request (drop l.object-index l.objects)
      ≡ calls_of l.fn.calls.items ++ opened fits (table_of l.bus) l.client l.request l.objects;
}
