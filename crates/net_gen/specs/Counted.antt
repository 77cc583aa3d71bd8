-- A settling of which nothing is written, and of which the calls are counted.
use Rattle.std.specs.Prelude.{ℕ, ◌≡◌, ◌≤◌, List, Bool, length, take, map, None, Result, Ok, Err}
use Rattle.plane_words.specs.Growth.{Grows}
use Rattle.kern_model.specs.declared.kernel.Kernel.{Ghosts as KernelMembers}
use Rattle.kern_model.specs.Kernel.{Records}
use Rattle.kern_model.specs.CallOrder.{after_calls}
use Rattle.net_rules.specs.Moment.{Moment}
use Rattle.net_settle.specs.Outside.{Outside}
use Rattle.net_settle.specs.Settle.{done_call}
use Rattle.step_net.specs.Moved.{due, made, settled}
use Rattle.step_net.specs.Finished.{IsSettled}

-- what is seen of a kernel, where nothing is written
abbrev pub kernel_alone : {K : Type 0} → KernelMembers K → K → Outside
kernel_alone kernel state = record {
  out = None;
  devices = kernel.devices state;
  objects = kernel.objects state;
  calls = kernel.calls state;
  asked = kernel.asked state;
  out_faults = 0;
  kernel_faults = kernel.faults state;
}

-- a settling came to its end, or to a call that failed, and so many calls were made
pub record IsCounted (net now : Moment) (count : ℕ) (before after : Outside) : Type 0 where
  pub stopped : Bool
  pub settling : IsSettled net now before after stopped
  pub number : count ≡ length (made (due net) settling.failed_after)

-- a front of the calls was made, none of which failed, and then the settling was broken off
pub record IsBrokenOff (net now : Moment) (before after : Outside) : Type 0 where
  pub count : ℕ
  pub next : now ≡ settled net (take count (due net))
  pub asked : Records before.asked after.asked (map done_call (take count (due net)))
  pub logged : Grows before.calls after.calls (take count (due net))
  pub objects : after.objects ≡ after_calls before.objects (take count (due net))
  pub later : before.kernel_faults ≤ after.kernel_faults

abbrev pub CountEnds : {E : Type 0} → Moment → Moment → Outside → Outside → Result ℕ E → Type 0
CountEnds net now before after (Ok count) = IsCounted net now count before after
CountEnds net now before after (Err lacks) = IsBrokenOff net now before after
