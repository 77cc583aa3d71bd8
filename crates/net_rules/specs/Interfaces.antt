-- Which interfaces are enabled, ready and up.
use Rattle.std.specs.Prelude.{ℕ, List, Bool, true, false, not, ◌&&◌, ◌||◌, Option, Some, None, unwrap_or, if◌then◌else◌}
use Rattle.std.specs.Option.{option_and_then}
use Rattle.net_rows.specs.declared.rows.InterfaceRow.{InterfaceRow}
use Rattle.net_rules.specs.declared.answer.Answer.{Answer}
use Rattle.net_rules.specs.Facts.{Facts}
use Rattle.net_rules.specs.Rows.{is_name, is_plain, is_faultless, asks_nothing, needs_device}
use Rattle.net_rules.specs.RadioPorts.{device_of}
use Rattle.net_rules.specs.Available.{available, link}

-- no fault, a name of its own, not disabled, and the last operator state is up; without an operator state `auto`
-- counts
abbrev pub is_enabled : Facts → InterfaceRow → Bool
is_enabled facts row =
    is_faultless row.faults
    && (not row.anonymous
    && (not row.disabled && unwrap_or (facts.operator_state row.name) row.autostart))

-- the device is available; without any, the protocol needs none
abbrev pub has_device : Facts → List ℕ → Option (List ℕ) → Bool
has_device facts proto None = not (needs_device proto)
has_device facts proto (Some device) = available facts device

abbrev pub is_claimed : Facts → InterfaceRow → Bool
is_claimed facts row = is_enabled facts row && has_device facts row.proto (device_of facts row)

-- the device has link; without any there is nothing to wait for
abbrev pub has_link : Facts → Option (List ℕ) → Bool
has_link facts None = true
has_link facts (Some device) = link facts device

abbrev pub is_ready : Facts → InterfaceRow → Bool
is_ready facts row =
    is_claimed facts row && (row.force_link || has_link facts (device_of facts row))

-- the latest answer to the open request of an interface
abbrev pub answer_of : Facts → InterfaceRow → Option Answer
answer_of facts row = if asks_nothing row.proto then None else facts.answer row.name

-- the layer-3 device of an interface: that of the answer, else its own
abbrev pub device_or_own : Option (List ℕ) → Option (List ℕ) → Option (List ℕ)
device_or_own None own = own
device_or_own (Some device) own = Some device

abbrev pub l3_device_of : Facts → InterfaceRow → Option (List ℕ)
l3_device_of facts row =
    device_or_own (option_and_then (λ answer. answer.device) (answer_of facts row))
    (device_of facts row)

-- a layer-3 device serves where it is available, and plain or the own device
abbrev pub serves_l3_device : Facts → Option (List ℕ) → Option (List ℕ) → Bool
serves_l3_device facts own None = false
serves_l3_device facts own (Some l3_device) =
    available facts l3_device && (is_plain facts.conf l3_device || is_name own l3_device)

abbrev pub is_answered_up : Option Answer → Bool
is_answered_up None = false
is_answered_up (Some answer) = answer.up

-- An interface is up where it is ready. One whose protocol has a handler also needs that the latest
-- answer is up, and that its layer-3 device serves.
abbrev pub is_up : Facts → InterfaceRow → Bool
is_up facts row =
    is_ready facts row
    && (asks_nothing row.proto
    || (is_answered_up (answer_of facts row)
    && serves_l3_device facts (device_of facts row) (l3_device_of facts row)))
