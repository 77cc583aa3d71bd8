-- What a graph of devices knows.
use Rattle.std.specs.Prelude.{ℕ, List, [], Option, None, map, position, bytes_eq}
use Rattle.std.specs.List.{find, filter_map}
use Rattle.std.specs.Option.{option_map, option_map_or, option_and_then}
use Rattle.std.specs.FinSet as set
use Rattle.kern_model.specs.declared.object.Device.{Device}
use Rattle.kern_model.specs.ObjectOrder.{Objects}
use Rattle.kern_model.specs.Kernel.{Devices, map_of}
use Rattle.net_rows.specs.declared.rows.NameRow.{NameRow}
use Rattle.net_rows.specs.declared.rows.VlanRow.{VlanRow}
use Rattle.graph_rules.specs.declared.ids.RadioPort.{RadioPort}

-- a name, its device where that is there, and how many claim it
pub record Named : Type 0 where
  pub name : List ℕ
  pub device : Option Device
  pub claims : ℕ

-- What decides the answers. The rows of names and of VLANs of bridges. The names, those of the rows and
-- further plain ones, each at the place that is its id. The ports of radios.
pub record Known : Type 0 where
  pub rows : List NameRow
  pub vlans : List VlanRow
  pub names : List Named
  pub radio : List RadioPort

-- A graph: what decides its answers, what is held of the kernel on devices, and how many loads made it.
pub record State : Type 0 where
  pub known : Known
  pub held : Objects
  pub loads : ℕ

abbrev pub nothing_known : Known
nothing_known = record { rows = []; vlans = []; names = []; radio = [] }

-- a graph without names, devices, claims and held objects
abbrev pub empty : State
empty = record { known = nothing_known; held = set.empty; loads = 0 }

abbrev pub named_in : List Named → List ℕ → Option Named
named_in names name = find (λ n. bytes_eq n.name name) names

abbrev pub device_among : List Named → List ℕ → Option Device
device_among names name = option_and_then (λ n. n.device) (named_in names name)

abbrev pub claims_among : List Named → List ℕ → ℕ
claims_among names name = option_map_or (λ n. n.claims) (named_in names name) 0

-- the present device of a name
abbrev pub device_in : Known → List ℕ → Option Device
device_in s name = device_among s.names name

-- how many claim a name
abbrev pub claims_in : Known → List ℕ → ℕ
claims_in s name = claims_among s.names name

abbrev pub name_list : List Named → List (List ℕ)
name_list names = map (λ n. n.name) names

abbrev pub names_in : Known → List (List ℕ)
names_in s = name_list s.names

-- the id of a name is its place
abbrev pub place_among : List Named → List ℕ → Option ℕ
place_among names name = position (bytes_eq name) (name_list names)

-- the present devices by name
abbrev pub devices_in : Known → Devices
devices_in s = map_of (filter_map (λ n. option_map (λ d. (n.name, d)) n.device) s.names)
