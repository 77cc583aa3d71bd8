-- What named devices and a `network` package make wanted.
use Rattle.std.specs.Prelude.{ℕ, List, [], filter, replicate, true}
use Rattle.std.specs.List.{flat_map, fold}
use Rattle.std.specs.FinSet as set
use Rattle.kern_model.specs.declared.object.Call.{Call}
use Rattle.kern_model.specs.declared.object.DevEvent.{DevEvent}
use Rattle.kern_model.specs.declared.object.DevEvent.TheVariants as device
use Rattle.kern_model.specs.ObjectOrder.{Objects}
use Rattle.kern_model.specs.Kernel.{Devices, is_present}
use Rattle.kern_calls.specs.Calls.{calls}
use Rattle.uci_tree.specs.declared.package.Package.{Package}
use Rattle.net_rows.specs.declared.rows.Conf.{Conf}
use Rattle.net_conf.specs.Conf.{conf}
use Rattle.net_rules.specs.declared.inputs.Inputs.{Inputs}
use Rattle.net_rules.specs.declared.event.Event.{Event}
use Rattle.net_rules.specs.declared.event.Event.TheVariants as event
use Rattle.net_rules.specs.declared.event.Notice.{Notice}
use Rattle.net_rules.specs.Inputs.{no_inputs}
use Rattle.net_rules.specs.After.{after}
use Rattle.net_rules.specs.Moment.{devices_of, want_of}
use Rattle.net_rules.specs.Notices.{notices}
use Rattle.request_lines.specs.RequestLine.{request_line}
use Rattle.net_start.specs.declared.devices.TheConstants.{ETHERNET_MTU}

-- a `wireless` package that says nothing
abbrev pub no_wireless : Package
no_wireless = record { name = []; sections = []; made = 0 }

-- the rows of a `network` package alone
abbrev pub rows_of : Package → Conf
rows_of network = conf network no_wireless

-- a device of this name comes, with carrier, the MTU of Ethernet and a hardware address of zeros
abbrev pub comes : List ℕ → DevEvent
comes name = device.Add name true ETHERNET_MTU (record { 0 = replicate 6 0 })

-- the inputs after one more device came, and those after devices of these names came from nothing
abbrev pub input_with : Inputs → List ℕ → Inputs
input_with inputs name = after inputs (event.Device (comes name))

abbrev pub inputs_with : List (List ℕ) → Inputs
inputs_with names = fold input_with no_inputs names

-- those of the names that are present
abbrev pub present_of : Devices → List (List ℕ) → List (List ℕ)
present_of devices names = filter (is_present devices) names

-- the event that the rows of a package are loaded
abbrev pub loading : Package → Event
loading network = event.Load (rows_of network)

-- the inputs after the devices came and the rows were loaded
abbrev pub start_inputs : Package → List (List ℕ) → Inputs
start_inputs network names = after (inputs_with names) (loading network)

-- what they want
abbrev pub start_wants : Package → List (List ℕ) → Objects
start_wants network names = want_of (start_inputs network names)

-- the calls from nothing to that
abbrev pub start_calls : Package → List (List ℕ) → List Call
start_calls network names =
    calls (devices_of (start_inputs network names)) set.empty (start_wants network names)

-- the lines of what is told of requests
abbrev pub lines_of_requests : Conf → List Notice → List ℕ
lines_of_requests conf told = flat_map (request_line conf) told

abbrev pub start_requests : Package → List (List ℕ) → List ℕ
start_requests network names =
    lines_of_requests (rows_of network) (notices (inputs_with names) (loading network))
