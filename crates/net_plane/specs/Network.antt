-- What the plane of interfaces keeps.
use Rattle.std.specs.Prelude.{ℕ, ◌≡◌, List, []}
use Rattle.kern_model.specs.declared.object.Object.{Object}
use Rattle.kern_model.specs.declared.object.Call.{Call}
use Rattle.kern_model.specs.declared.kernel.Kernel.{Ghosts as KernelMembers}
use Rattle.kern_model.specs.ObjectOrder.{set_of}
use Rattle.kern_calls.specs.Calls.{calls}
use Rattle.net_rules.specs.declared.inputs.Inputs.{Inputs}
use Rattle.net_rules.specs.declared.event.Notice.{Notice}
use Rattle.net_rules.specs.Inputs.{no_inputs}
use Rattle.net_rules.specs.Moment.{Moment, devices_of, want_of}

-- the inputs, what the kernel holds, the notices that are still to be handed out, and how many loads
-- were taken
pub record Network : Type 0 where
  pub inputs : Inputs
  pub held : List Object
  pub notices : List Notice
  pub loads : ℕ

-- nothing was loaded, no device is present, nothing is held, and there is nothing to tell
pub record IsNew (network : Network) : Type 0 where
  pub inputs : network.inputs ≡ no_inputs
  pub held : network.held ≡ []
  pub notices : network.notices ≡ []

-- the inputs and what is held, as a moment of a history
abbrev pub moment_of : Network → Moment
moment_of network = record { inputs = network.inputs; held = set_of network.held }

-- the kernel has the present devices, and holds what the plane keeps as held
pub record IsOf {K : Type 0} (kernel : KernelMembers K) (state : K) (network : Network)
    : Type 0 where
  pub devices : kernel.devices state ≡ devices_of network.inputs
  pub objects : kernel.objects state ≡ set_of network.held

-- a kernel of the one plane is one of the other
pub record HasSameKernel (before now : Network) : Type 0 where
  pub devices : devices_of now.inputs ≡ devices_of before.inputs
  pub held : now.held ≡ before.held

-- the calls from what is held to what is wanted
abbrev pub calls_of : Network → List Call
calls_of network =
    calls (devices_of network.inputs) (set_of network.held) (want_of network.inputs)
