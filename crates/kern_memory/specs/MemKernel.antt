-- A kernel in memory.
use Rattle.std.specs.Prelude.{ℕ, ◌≡◌, ◌⊎◌, List}
use Rattle.plane_words.specs.Causes.{next_count}
use Rattle.kern_model.specs.declared.object.Call.{Call}
use Rattle.kern_model.specs.declared.object.DevEvent.{DevEvent}
use Rattle.kern_model.specs.declared.kernel.Asked.{Asked}
use Rattle.kern_model.specs.ObjectOrder.{Objects}
use Rattle.kern_model.specs.Kernel.{Devices}
use Rattle.kern_memory.specs.Tables.{KernelTables, LacksObjectRoom, LacksDeviceRoom}
use Rattle.kern_memory.specs.Log.{KeptLog, IsFull}

-- What it holds, and the lists of the done calls and of all that was asked, where they are kept.
-- Calls of `apply` and of `environment` are numbered each by itself, and those whose numbers are
-- listed fail. Then the faults, and how many growths were refused.
pub record KernelInMemory : Type 0 where
  pub tables : KernelTables
  pub calls : KeptLog Call
  pub asked : KeptLog Asked
  pub failing_apply : List ℕ
  pub failing_environment : List ℕ
  pub applied : ℕ
  pub happened : ℕ
  pub faults : ℕ
  pub refused : ℕ

-- the objects, as a set
abbrev pub objects_of : KernelInMemory → Objects
objects_of kernel = kernel.tables.objects

-- the present devices, by name
abbrev pub devices_of : KernelInMemory → Devices
devices_of kernel = kernel.tables.devices

-- what the call makes longer has no room: the list of all that was asked, that of the done calls, or
-- the table of the objects, which only a put makes longer
abbrev pub IsFullForCall : KernelInMemory → Call → Type 0
IsFullForCall kernel call =
    IsFull kernel.asked.items kernel.asked.most
    ⊎ (IsFull kernel.calls.items kernel.calls.most ⊎ LacksObjectRoom kernel.tables call)

-- what the event makes longer has no room: the list of all that was asked, or the table of the
-- devices, which only a device that comes makes longer
abbrev pub IsFullForEvent : KernelInMemory → DevEvent → Type 0
IsFullForEvent kernel happens =
    IsFull kernel.asked.items kernel.asked.most ⊎ LacksDeviceRoom kernel.tables happens

-- A call failed by its list, and no growth was refused, or there was no room and the growth was
-- refused.
abbrev pub FailedBy : Type 0 → Type 0 → ℕ → ℕ → Type 0
FailedBy listed full before now = (listed × (now ≡ before)) ⊎ (full × (now ≡ next_count before))
