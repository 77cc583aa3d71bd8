-- What had been done to the plane of interfaces, and asked of the kernel, where a call was stopped.
use Rattle.std.specs.Prelude.{ℕ, ◌≡◌, List, [], Bool}
use Rattle.plane_words.specs.Causes.{RoseBy}
use Rattle.blob_codec.specs.declared.blob.Attr.{Attr}
use Rattle.kern_model.specs.declared.kernel.Asked.{Asked}
use Rattle.kern_model.specs.Kernel.{Records}
use Rattle.kern_model.specs.ObjectOrder.{Objects}
use Rattle.net_rules.specs.Moment.{Moment}
use Rattle.step_net.specs.Moved.{once_if}
use Rattle.step_net.specs.Taken.{Telled}
use Rattle.rpc_objects.specs.declared.local_object.LocalObject.{LocalObject}
use Rattle.rpc_objects.specs.Calls.{Parts, Called, CallsTo}

-- what is held, what the kernel was asked, and how often it failed
pub record Cut : Type 0 where
  pub held : Objects
  pub asked : List Asked
  pub failures : ℕ

-- nothing was done
abbrev pub untouched : Moment → Cut
untouched net = record { held = net.held; asked = []; failures = 0 }

-- a call was done, where the kernel failed at its event or not
abbrev pub behind_call : Called → Bool → Cut
behind_call done failed =
    record { held = done.parts.net.held; asked = done.asked; failures = once_if failed }

-- a call was stopped in front of what it does, or behind it
pub data CallCuts (now word : ℕ) (before : Parts) (object : LocalObject) (method : List ℕ) (args : List Attr) : Cut
    → Type 0 where
  in_front : CallCuts now word before object method args (untouched before.net)
  behind : (failed : Bool) (done : Called) → CallsTo now word failed before object method args done
      → CallCuts now word before object method args (behind_call done failed)

-- the plane holds that, and the kernel was asked that and failed so often
pub record IsCutSo (cut : Cut) (now : Moment) (kernel : Telled) : Type 0 where
  pub held : now.held ≡ cut.held
  pub asked : Records kernel.asked kernel.asked_now cut.asked
  pub cause : RoseBy cut.failures kernel.faults kernel.faults_now
