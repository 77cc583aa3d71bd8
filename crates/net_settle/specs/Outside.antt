-- What is seen of a kernel and of the output that gets the lines of its calls, at one moment: a
-- plain record made from the members of the devices.
use Rattle.std.specs.Prelude.{ℕ, List, Option}
use Rattle.plane_io.specs.declared.sink.Sink.{Ghosts as SinkMembers}
use Rattle.kern_model.specs.declared.kernel.Kernel.{Ghosts as KernelMembers}
use Rattle.kern_model.specs.declared.object.Call.{Call}
use Rattle.kern_model.specs.declared.kernel.Asked.{Asked}
use Rattle.kern_model.specs.ObjectOrder.{Objects}
use Rattle.kern_model.specs.Kernel.{Devices}

pub record Outside : Type 0 where
  pub out : Option (List ℕ)
  pub devices : Devices
  pub objects : Objects
  pub calls : Option (List Call)
  pub asked : Option (List Asked)
  pub out_faults : ℕ
  pub kernel_faults : ℕ

abbrev pub outside_of : {O K : Type 0} → SinkMembers O → KernelMembers K → O → K → Outside
outside_of sink kernel out state = record {
  out = sink.held out;
  devices = kernel.devices state;
  objects = kernel.objects state;
  calls = kernel.calls state;
  asked = kernel.asked state;
  out_faults = sink.faults out;
  kernel_faults = kernel.faults state;
}
