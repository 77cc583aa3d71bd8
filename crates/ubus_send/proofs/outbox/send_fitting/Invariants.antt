use Rattle.std.proofs.Common.{◌≡◌, ◌++◌}
use Rattle.std.specs.List.{flat_map}
use Rattle.std.specs.Vec.Iter.{into_iter_items}
use Rattle.ubus_table.specs.Frames.{where_fits}
use Rattle.ubus_send.specs.Fits.{fits}
use Rattle.ubus_send.specs.Out.{out_of}
use Rattle.ubus_send.proofs.outbox.send_fitting.Given as goal

-- what is sent so far, and the frames that are left
abbrev pub invariant-loop-frame : goal.invariant-loop-frame
invariant-loop-frame l = l.out ++ out_of (flat_map (where_fits fits l.fn.client) (into_iter_items l.frame-iterator)) ≡ l.fn.out ++ out_of (flat_map (where_fits fits l.fn.client) l.fn.frames.items)
