-- How a device name lies in memory.
use Rattle.std.specs.Prelude.{ℕ, ◌≡◌, List, length, take, true}
use Rattle.std.proofs.Common.{ap}
use Rattle.kern_model.specs.Name.{is_name, padded}
use Rattle.kern_model.specs.declared.name.DevName.TheInside.{Inside}

-- the bytes of the name
abbrev pub name_view : Inside → List ℕ
name_view n = take n.length n.bytes

-- the first bytes are a device name, and zeros stand after them
pub record IsStored (n : Inside) : Type 0 where
  pub name : is_name (name_view n) ≡ true
  pub long : length (name_view n) ≡ n.length
  pub zeros : padded (name_view n) ≡ n.bytes

-- a name with zeros after it
abbrev pub stored : List ℕ → Inside
stored name = record { bytes = padded name; length = length name }

pub stored-view : (n : Inside) → IsStored n → stored (name_view n) ≡ n
stored-view n h =
    ap (λ (p : List ℕ × ℕ). record { bytes = p.0; length = p.1 }) (cc (h.zeros, h.long))
