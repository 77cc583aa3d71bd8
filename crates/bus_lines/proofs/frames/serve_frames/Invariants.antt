use Rattle.std.proofs.Common.{◌≡◌, ◌++◌, List, [], length}
use Rattle.std.specs.Prelude.{Ok}
use Rattle.ubus_frames.specs.declared.frame.Frame.{Frame}
use Rattle.net_plane.specs.Network.{IsOf}
use Rattle.step_net.specs.Taken.{telled_of}
use Rattle.rpc_objects.specs.Passed.{StaysOrStopsIn}
use Rattle.rpc_objects.specs.Kept.{StaysOn, faults_of}
use Rattle.bus_lines.specs.Passed.{FramesPass}
use Rattle.bus_lines.specs.Ended.{world_of}
use Rattle.bus_lines.specs.Calling.{seen_by}
use Rattle.bus_lines.specs.Frames.{HasServed}
use Rattle.bus_lines.proofs.frames.serve_frames.Given as goal

-- the frames in front of the rest were served
abbrev pub invariant-loop-frame : goal.invariant-loop-frame
invariant-loop-frame g l = record {
  served : (done : List Frame) × (l.fn.frames ≡ done ++ l.rest)
      × HasServed (world_of l.now l.fn.store l.fn.callers l.fn.net) l.number done
      (world_of l.now l.store l.callers l.net)
      (seen_by (telled_of g.K.Kernel l.fn.kernel l.kernel) l.fn.callers l.callers
      (g.R.Random.words l.fn.random) (g.R.Random.words l.random)
      (faults_of (g.D.Disk.view l.fn.files) (g.D.Disk.view l.files)
      (g.T.Disk.view l.fn.staged) (g.T.Disk.view l.staged)))
      l.gathered;
  told : l.net.notices ≡ [];
  of : IsOf g.K.Kernel l.kernel l.net;
  calls : g.K.Kernel.calls l.kernel ≡ g.K.Kernel.calls l.fn.kernel;
  stays : StaysOn {X = Unit {0}} (Ok (tt {0})) l.fn.store l.store (g.D.Disk.view l.fn.files)
      (g.D.Disk.view l.files) (g.T.Disk.view l.fn.staged) (g.T.Disk.view l.staged);
  images : StaysOrStopsIn l.fn.store g.D.Disk.view l.fn.files l.files
      (FramesPass (world_of l.now l.fn.store l.fn.callers l.fn.net) l.number l.fn.frames);
}

abbrev pub decreases-loop-frame : goal.decreases-loop-frame
decreases-loop-frame g l = length l.rest
