use Rattle.std.proofs.Common.{◌≡◌, ◌≤◌, ℕ, List, [], take, true, Contains}
use Rattle.std.specs.FinSet as set
use Rattle.kern_model.specs.ObjectOrder.{set_of}
use Rattle.kern_model.specs.Kernel.{is_present, Records}
use Rattle.net_plane.specs.Network.{IsOf}
use Rattle.net_start.specs.Inputs.{inputs_with, present_of}
use Rattle.net_start.specs.Devices.{Came, additions}
use Rattle.net_start.proofs.devices.add_devices.Given as goal

-- the devices so far are present where the kernel took them, and nothing else is
abbrev pub invariant-loop-name : goal.invariant-loop-name
invariant-loop-name g l = record {
  inputs : l.net.inputs ≡ inputs_with
      (present_of (g.K.Kernel.devices l.kernel) (take l.name-index l.names));
  held : set_of l.net.held ≡ set.empty;
  told : l.net.notices ≡ [];
  of : IsOf g.K.Kernel l.kernel l.net;
  calls : g.K.Kernel.calls l.kernel ≡ g.K.Kernel.calls l.fn.kernel;
  later : g.K.Kernel.faults l.fn.kernel ≤ g.K.Kernel.faults l.kernel;
  only : (q : List ℕ) → is_present (g.K.Kernel.devices l.kernel) q ≡ true
      → Contains (take l.name-index l.names) q;
  asked : Records (g.K.Kernel.asked l.fn.kernel) (g.K.Kernel.asked l.kernel)
      (additions (g.K.Kernel.devices l.kernel) (take l.name-index l.names));
  came : Came (take l.name-index l.names) (g.K.Kernel.devices l.kernel)
      (g.K.Kernel.faults l.fn.kernel) (g.K.Kernel.faults l.kernel);
}
