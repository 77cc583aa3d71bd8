-- Named devices that come one after the other.
use Rattle.std.specs.Prelude.{ℕ, ◌≡◌, List, [], ◌∷◌, ◌++◌, filter, length, map, not, Option}
use Rattle.std.specs.FinSet as set
use Rattle.std.specs.FinMap as finite_map
use Rattle.plane_words.specs.Causes.{RoseBy}
use Rattle.kern_model.specs.declared.kernel.Asked.{Asked}
use Rattle.kern_model.specs.declared.kernel.Asked.TheVariants as asked
use Rattle.kern_model.specs.Kernel.{Devices, is_present, after_event, Records}
use Rattle.net_settle.specs.Outside.{Outside}
use Rattle.net_start.specs.Inputs.{comes, present_of}

-- the devices after those of these names came in turn
abbrev pub with_devices : Devices → List (List ℕ) → Devices
with_devices devices [] = devices
with_devices devices (name ∷ names) = with_devices (after_event devices (comes name)) names

-- how many of the named devices are absent
abbrev pub absent_count : Devices → List (List ℕ) → ℕ
absent_count devices names = length (filter (λ name. not (is_present devices name)) names)

-- Of the named devices some came, and the kernel failed at least once for each of the others.
pub record Came (names : List (List ℕ)) (devices : Devices) (before now : ℕ) : Type 0 where
  pub present : devices ≡ with_devices finite_map.empty (present_of devices names)
  pub absent : RoseBy (absent_count devices names) before now

-- that each of the named devices comes was asked once, in their order, and done exactly where it is
-- present now
abbrev pub additions : Devices → List (List ℕ) → List Asked
additions devices names = map (λ name. asked.Event (comes name) (is_present devices name)) names

-- a front of the named devices was tried so, perhaps none or all of them, and nothing else was asked
pub record CameInFront (names : List (List ℕ)) (devices : Devices)
    (asked_before asked_now : Option (List Asked)) (before now : ℕ) : Type 0 where
  pub front : List (List ℕ)
  pub back : List (List ℕ)
  pub parts : names ≡ front ++ back
  pub came : Came front devices before now
  pub asked : Records asked_before asked_now (additions devices front)

-- the named devices were tried, and nothing else was done
pub record AreAdded (names : List (List ℕ)) (before now : Outside) : Type 0 where
  pub came : Came names now.devices before.kernel_faults now.kernel_faults
  pub asked : Records before.asked now.asked (additions now.devices names)
  pub objects : now.objects ≡ set.empty
  pub calls : now.calls ≡ before.calls
  pub out : now.out ≡ before.out
  pub out_faults : now.out_faults ≡ before.out_faults
