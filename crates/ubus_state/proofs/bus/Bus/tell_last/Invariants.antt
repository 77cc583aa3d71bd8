use Rattle.std.proofs.Common.{◌≡◌, ◌++◌, ◌==◌, not, [], drop}
use Rattle.std.specs.Prelude.{if◌then◌else◌, ◌&&◌, false}
use Rattle.std.specs.List.{flat_map}
use Rattle.ubus_table.specs.Subscriptions.{is_alone, activity}
use Rattle.ubus_table.specs.Objects.{untouched}
use Rattle.ubus_send.specs.Fits.{fits}
use Rattle.ubus_send.specs.Out.{out_of}
use Rattle.ubus_state.specs.State.{table_of}
use Rattle.ubus_state.specs.Leaving.{partly}
use Rattle.ubus_state.proofs.bus.Bus.tell_last.Given as goal

-- what is sent so far, and what is left
abbrev pub invariant-loop-target : goal.invariant-loop-target
invariant-loop-target l =
    l.out ++ out_of (flat_map (λ target. if not (target == l.number) && is_alone (untouched l.number l.subscriptions) target then activity fits (partly (table_of l.self) l.gone l.subscriptions []) target false else [])
    (drop l.target-index l.targets))
    ≡ l.fn.out ++ out_of (flat_map (λ target. if not (target == l.number) && is_alone (untouched l.number l.subscriptions) target then activity fits (partly (table_of l.self) l.gone l.subscriptions []) target false else []) l.targets)
