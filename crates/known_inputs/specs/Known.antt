-- Inputs and their room, and what stands once in them.
use Rattle.std.specs.Prelude.{ℕ, ◌≡◌, ◌≤◌, List, map, Contains, is_some, true}
use Rattle.plane_words.specs.Distinct.{AreDistinct}
use Rattle.net_rows.specs.declared.rows.Conf.{Conf}
use Rattle.net_rules.specs.declared.inputs.Inputs.{Inputs}
use Rattle.net_rules.specs.Rows.{interface_named}
use Rattle.net_rules.specs.Numbers.{AreRising, interface_numbers}

-- the inputs, and how many present devices there is memory for, those that there are among them
pub record Known : Type 0 where
  pub inputs : Inputs
  pub most_devices : ℕ

-- the names of the present devices
abbrev pub device_names : Inputs → List (List ℕ)
device_names inputs = map (λ e. e.0) inputs.devices

-- the interfaces that have an operator state
abbrev pub commanded_names : Inputs → List (List ℕ)
commanded_names inputs = map (λ c. c.interface) inputs.operator_states

-- the interfaces that have an open request
abbrev pub asked_names : Inputs → List (List ℕ)
asked_names inputs = map (λ o. o.request.name) inputs.interfaces

-- the rows have an interface of that name
abbrev pub IsNamed : Conf → List ℕ → Type 0
IsNamed conf name = is_some (interface_named conf name) ≡ true

-- distinct names, each of an interface of the rows
pub record AreOfRows (conf : Conf) (names : List (List ℕ)) : Type 0 where
  pub once : AreDistinct names
  pub named : (name : List ℕ) → Contains names name → IsNamed conf name

-- One device has a name. There is one operator state and one open request for an interface at most, and none but for
-- interfaces of the rows. The asks stand by rising number, from 1 and below the next one, which is not 0.
pub record StandOnce (inputs : Inputs) : Type 0 where
  pub devices : AreDistinct (device_names inputs)
  pub operator_states : AreOfRows inputs.conf (commanded_names inputs)
  pub requests : AreOfRows inputs.conf (asked_names inputs)
  pub numbers : AreRising 1 inputs.next (interface_numbers inputs)
  pub next : 1 ≤ inputs.next
