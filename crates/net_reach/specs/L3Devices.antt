-- Inputs in which other layer-3 devices are told.
use Rattle.std.specs.Prelude.{ℕ, ◌≡◌, List, map, Bool, false, Option, bytes_eq}
use Rattle.net_rules.specs.declared.inputs.Inputs.{Inputs}
use Rattle.net_reach.specs.Reach.{told_l3_device}

-- Rows, answers of radios and the names of present devices are the same, and so is the device that
-- was last told for each interface which a test does not tell. Operator states, carriers, and asks without
-- such a device may differ.
pub record ReachesAlikeBut (changes : List ℕ → Bool) (before now : Inputs) : Type 0 where
  pub conf : now.conf ≡ before.conf
  pub radios : now.radios ≡ before.radios
  pub devices : map (λ e. e.0) now.devices ≡ map (λ e. e.0) before.devices
  pub l3_devices : (name : List ℕ) → changes name ≡ false
      → told_l3_device now name ≡ told_l3_device before name

-- no interface was told another device
abbrev pub ReachesAlike : Inputs → Inputs → Type 0
ReachesAlike before now = ReachesAlikeBut (λ name. false) before now

-- One interface is told a device, by an answer to its request or in place of an earlier one, or is told
-- none, by such an answer or as its request is closed.
pub record TellsL3Device (before now : Inputs) (interface : List ℕ) (was l3_device : Option (List ℕ))
    : Type 0 where
  pub others : ReachesAlikeBut (λ name. bytes_eq name interface) before now
  pub was_told : told_l3_device before interface ≡ was
  pub is_told : told_l3_device now interface ≡ l3_device
