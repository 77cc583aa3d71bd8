-- The plane and the kernel after what happens to a device.
use Rattle.std.proofs.Common.{◌≡◌, None, ap, sym, subst, ◌∙◌}
use Rattle.kern_model.specs.declared.object.DevEvent.{DevEvent}
use Rattle.kern_model.specs.declared.kernel.Kernel.{Ghosts as KernelMembers}
use Rattle.kern_model.specs.ObjectOrder.{Objects, set_of}
use Rattle.kern_model.specs.Kernel.{Devices, map_of, MayHappen, after_event, objects_after_event}
use Rattle.net_rules.specs.declared.event.Event.TheVariants as event
use Rattle.net_rules.specs.Moment.{Moment, devices_of}
use Rattle.net_rules.specs.Refusal.{refusal}
use Rattle.net_rules.proofs.MomentLemmas.{devices_follow, present_follows}
use Rattle.net_rules.proofs.RefusalLemmas.{device_may}
use Rattle.net_plane.specs.Network.{Network, moment_of, IsOf}
use Rattle.net_plane.specs.Taken.{IsAfter}

-- what nothing refuses may happen to a kernel of the plane
pub happens_to : (network : Network) (what : DevEvent) (devices : Devices) (objects : Objects) → devices ≡ devices_of network.inputs → objects ≡ set_of network.held → refusal (moment_of network) (event.Device what) ≡ None
    → MayHappen devices objects what
happens_to network what devices objects same held free =
    subst (λ d. MayHappen d objects what) (sym same) (subst (λ o. MayHappen (devices_of network.inputs) o what) (sym held) (device_may (moment_of network) what free))

-- a kernel that was told is one of the next plane
module _ (before next : Network) (what : DevEvent) (is : IsAfter before (event.Device what) next) where
  devices_after_it : devices_of next.inputs ≡ after_event (devices_of before.inputs) what
  devices_after_it = ap (λ (m : Moment). devices_of m.inputs) is.moment ∙ ap map_of (present_follows before.inputs (event.Device what)) ∙ devices_follow before.inputs.devices what

  held_after_it : set_of next.held ≡ objects_after_event (set_of before.held) what
  held_after_it = ap (λ (m : Moment). m.held) is.moment

  pub of_next : {K : Type 0} (kernel : KernelMembers K) (state then : K) → IsOf kernel state before → kernel.devices then ≡ after_event (kernel.devices state) what → kernel.objects then ≡ objects_after_event (kernel.objects state) what
      → IsOf kernel then next
  of_next kernel state then of devices objects = record {
    devices = devices ∙ ap (λ (d : Devices). after_event d what) of.devices ∙ sym devices_after_it;
    objects = objects ∙ ap (λ (o : Objects). objects_after_event o what) of.objects ∙ sym held_after_it;
  }

-- one that was not is one of the same plane
pub of_same : {K : Type 0} (kernel : KernelMembers K) (state then : K) (network : Network) → IsOf kernel state network → kernel.devices then ≡ kernel.devices state → kernel.objects then ≡ kernel.objects state → IsOf kernel then network
of_same kernel state then network of devices objects = record { devices = devices ∙ of.devices; objects = objects ∙ of.objects }
