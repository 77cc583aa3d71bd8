-- What events, loads and calls of the kernel make of a graph.
use Rattle.std.specs.Prelude.{ℕ, zero, suc, ◌+◌, List, [], ◌∷◌, ◌++◌, map, Option, Some, None, Bool, slice_set}
use Rattle.std.specs.Prelude.{slice_index_or, unwrap_or}
use Rattle.std.specs.Option.{option_map}
use Rattle.kern_model.specs.declared.object.Device.{Device}
use Rattle.kern_model.specs.declared.object.Call.{Call}
use Rattle.kern_model.specs.ObjectOrder.{Objects}
use Rattle.kern_model.specs.Standing.{gone}
use Rattle.kern_model.specs.Kernel.{after_call, with_carrier}
use Rattle.net_rows.specs.declared.rows.Conf.{Conf}
use Rattle.net_rules.specs.Rows.{names_of}
use Rattle.graph_rules.specs.declared.ids.RadioPort.{RadioPort}
use Rattle.graph_rules.specs.State.{Named, Known, State, empty, device_among, claims_among}

-- what is read past the last name
abbrev pub no_name : Named
no_name = record { name = []; device = None; claims = 0 }

-- the name of an id
abbrev pub name_at : List Named → ℕ → Named
name_at names id = slice_index_or names id no_name

-- the device of an id is there or not
abbrev pub with_device : List Named → ℕ → Option Device → List Named
with_device names id device = slice_set names id (record (name_at names id) { device = device })

-- an id has this many claims
abbrev pub with_claims : List Named → ℕ → ℕ → List Named
with_claims names id claims = slice_set names id (record (name_at names id) { claims = claims })

-- a name without a device and without claims, at the end
abbrev pub with_name : List Named → List ℕ → List Named
with_name names name = names ++ record { name = name; device = None; claims = 0 } ∷ []

-- a name with the device and the claims that it had, if any
abbrev pub kept_name : List Named → List ℕ → Named
kept_name old name =
    record { name = name; device = device_among old name; claims = claims_among old name }

-- names with the devices and the claims that they had
abbrev pub kept_names : List Named → List (List ℕ) → List Named
kept_names old names = map (kept_name old) names

abbrev pub with_names : State → List Named → State
with_names s names = record s { known = record s.known { names = names } }

-- a device is there
abbrev pub present_after : State → ℕ → Device → State
present_after s id device = with_names s (with_device s.known.names id (Some device))

-- what stands on the device of a name goes with it, where it was there
abbrev pub left_by : Option Device → List ℕ → Objects → Objects
left_by None name held = held
left_by (Some device) name held = gone held name

-- a device is gone, and with it what goes with a device of the kernel
abbrev pub absent_after : State → ℕ → State
absent_after s id =
    record (with_names s (with_device s.known.names id None)) {
      held = left_by (name_at s.known.names id).device (name_at s.known.names id).name s.held;
    }

-- the carrier of a present device is on or off
abbrev pub carrier_after : State → ℕ → Bool → State
carrier_after s id on =
    with_names s (with_device s.known.names id
    (option_map (with_carrier on) (name_at s.known.names id).device))

-- a name has this many claims
abbrev pub claimed_after : State → ℕ → ℕ → State
claimed_after s id claims = with_names s (with_claims s.known.names id claims)

-- radios have these ports in place of their old ones
abbrev pub ports_after : State → List RadioPort → State
ports_after s radio = record s { known = record s.known { radio = radio } }

-- one more plain name, at the end
abbrev pub added_after : State → List ℕ → State
added_after s name = with_names s (with_name s.known.names name)

-- a call of the kernel was done
abbrev pub did_after : State → Call → State
did_after s call = record s { held = after_call s.held call }

-- what is known of rows, further plain names and ports of radios, with the devices and the claims that
-- the names had
abbrev pub known_of : List Named → Conf → List (List ℕ) → List RadioPort → Known
known_of old conf plain radio =
    record {
      rows = conf.names;
      vlans = conf.vlans;
      names = kept_names old (names_of conf ++ plain);
      radio = radio;
    }

-- Rows are loaded with further plain names and ports of radios. Devices, the claims of names that stay,
-- and what is held are kept from the old graph; a first load has the empty one.
abbrev pub loaded_after : Option State → Conf → List (List ℕ) → List RadioPort → State
loaded_after old conf plain radio =
    let before = unwrap_or old empty in
    record {
      known = known_of before.known.names conf plain radio;
      held = before.held;
      loads = before.loads + 1;
    }

-- ---- a load beside one of nothing

-- a device is there, if there is one
abbrev pub device_after : State → ℕ → Option Device → State
device_after s id None = s
device_after s id (Some device) = present_after s id device

-- the name of an id is told the device and the claims that it had, if any
abbrev pub told_again : List Named → ℕ → State → State
told_again old id s =
    let name = (name_at s.known.names id).name in
    claimed_after (device_after s id (device_among old name)) id (claims_among old name)

-- each id below a number is, one after another
abbrev pub all_told_again : List Named → ℕ → State → State
all_told_again old zero s = s
all_told_again old (suc n) s = told_again old n (all_told_again old n s)
