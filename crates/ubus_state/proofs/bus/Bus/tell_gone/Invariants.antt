use Rattle.std.proofs.Common.{◌≡◌, ◌++◌, [], drop}
use Rattle.std.specs.List.{flat_map}
use Rattle.ubus_table.specs.Table.{owner_of}
use Rattle.ubus_table.specs.Frames.{to_owner, gone}
use Rattle.ubus_send.specs.Fits.{fits}
use Rattle.ubus_send.specs.Out.{out_of}
use Rattle.ubus_state.specs.State.{table_of}
use Rattle.ubus_state.specs.Leaving.{partly}
use Rattle.ubus_state.proofs.bus.Bus.tell_gone.Given as goal

-- what is sent so far, and what is left
abbrev pub invariant-loop-subscriber : goal.invariant-loop-subscriber
invariant-loop-subscriber l =
    l.out ++ out_of (flat_map (λ subscriber. to_owner fits (owner_of (partly (table_of l.self) l.gone [] []) subscriber) (gone subscriber l.number)) (drop l.subscriber-index l.subscribers))
    ≡ l.fn.out ++ out_of (flat_map (λ subscriber. to_owner fits (owner_of (partly (table_of l.self) l.gone [] []) subscriber) (gone subscriber l.number)) l.subscribers)
