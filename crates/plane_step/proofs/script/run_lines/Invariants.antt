use Rattle.std.proofs.Common.{◌≡◌, ◌++◌, List, [], length}
use Rattle.std.specs.Prelude.{Ok}
use Rattle.uci_text.specs.declared.line.Line.{Line}
use Rattle.net_rules.specs.Moment.{want_of}
use Rattle.net_settle.specs.Outside.{outside_of}
use Rattle.step_net.specs.Finished.{HoldsOrFailed}
use Rattle.net_plane.specs.Network.{IsOf}
use Rattle.rpc_objects.specs.Passed.{StaysOrStopsIn}
use Rattle.plane_outside.specs.Supply.{supply_of}
use Rattle.bus_lines.specs.Ended.{world_of}
use Rattle.plane_step.specs.Plain.{ArePlain}
use Rattle.plane_step.specs.ScriptPasses.{ScriptPasses}
use Rattle.plane_step.specs.Kept.{StaysOn}
use Rattle.plane_step.specs.Ran.{Ran}
use Rattle.plane_step.proofs.script.run_lines.Given as goal

-- the lines in front of the rest were carried out
abbrev pub invariant-loop-line : goal.invariant-loop-line
invariant-loop-line g l = record {
  ran : (done : List Line) × (l.fn.lines ≡ done ++ l.rest)
      × Ran (world_of l.fn.moment l.fn.store l.fn.callers l.fn.net) done
      (world_of l.moment l.store l.callers l.net)
      (record {
        before = supply_of l.fn.callers.spare.word (g.R.Random.words l.fn.random);
        after = supply_of l.callers.spare.word (g.R.Random.words l.random);
      })
      (outside_of g.O.Sink g.K.Kernel l.fn.out l.fn.kernel)
      (outside_of g.O.Sink g.K.Kernel l.out l.kernel) l.is_ok
      × StaysOrStopsIn l.fn.store g.D.Disk.view l.fn.files l.files
      (ScriptPasses (world_of l.fn.moment l.fn.store l.fn.callers l.fn.net)
      (supply_of l.fn.callers.spare.word (g.R.Random.words l.fn.random)) done);
  told : l.net.notices ≡ [];
  of : IsOf g.K.Kernel l.kernel l.net;
  stays : StaysOn {X = Unit {0}} (Ok (tt {0})) l.fn.store l.store (g.D.Disk.view l.fn.files)
      (g.D.Disk.view l.files) (g.T.Disk.view l.fn.staged) (g.T.Disk.view l.staged);
  due : g.K.Kernel.objects l.fn.kernel ≡ want_of l.fn.net.inputs
      → HoldsOrFailed (g.K.Kernel.objects l.kernel) (want_of l.net.inputs)
      (g.K.Kernel.faults l.fn.kernel) (g.K.Kernel.faults l.kernel);
  random : ArePlain l.fn.lines → (l.random ≡ l.fn.random) × ArePlain l.rest;
}

abbrev pub decreases-loop-line : goal.decreases-loop-line
decreases-loop-line g l = length l.rest
