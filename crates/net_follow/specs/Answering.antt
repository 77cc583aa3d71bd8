-- Room for what an answer brings.
use Rattle.std.specs.Prelude.{ℕ, List, [], ◌++◌, Option, Some, None, IfSome, if◌then◌else◌}
use Rattle.std.specs.Option.{option_and_then}
use Rattle.kern_model.specs.declared.object.Object.{Object}
use Rattle.net_rows.specs.declared.rows.InterfaceRow.{InterfaceRow}
use Rattle.net_rules.specs.declared.answer.Answer.{Answer}
use Rattle.net_rules.specs.declared.event.Event.TheVariants as event
use Rattle.net_rules.specs.Rows.{asks_nothing, is_static}
use Rattle.net_rules.specs.RadioPorts.{device_of}
use Rattle.net_rules.specs.Inputs.{facts_of}
use Rattle.net_rules.specs.Interfaces.{device_or_own, l3_device_of}
use Rattle.net_rules.specs.Want.{of_options, of_answer, of_sections, given_by}
use Rattle.net_rules.specs.Facts.{Facts}
use Rattle.net_rules.specs.After.{changed}
use Rattle.net_gifts.specs.Giving.{HavePlaces}
use Rattle.net_reach.specs.Groups.{HasRoomAt}
use Rattle.net_follow.specs.declared.follower.Follower.{Follower}
use Rattle.net_follow.specs.InStep.{inputs_of}

-- what a row hears of an answer: nothing where no handler serves it
abbrev pub heard : InterfaceRow → Answer → Option Answer
heard row answer = if asks_nothing row.proto then None else Some answer

-- its layer-3 device then
abbrev pub l3_device_by : Facts → InterfaceRow → Answer → Option (List ℕ)
l3_device_by facts row answer =
    device_or_own (option_and_then (λ a. a.device) (heard row answer)) (device_of facts row)

-- what it gives then, on that device
abbrev pub given_hearing : Facts → InterfaceRow → Answer → Option (List ℕ) → List Object
given_hearing facts row answer None = []
given_hearing facts row answer (Some dev) =
    (if is_static row.proto then of_options row dev else of_answer dev (heard row answer))
    ++ of_sections facts row dev

-- the facts once an answer came
abbrev pub facts_answered : Follower → List ℕ → ℕ → Answer → Facts
facts_answered f interface number answer =
    facts_of (changed (inputs_of f) (event.Answer interface number answer))

-- There is a place for each address and each route that a row gives with the answer, and room for one more interface at
-- its layer-3 device.
pub record HasAnswerRoom (f : Follower) (row : InterfaceRow) (number : ℕ) (answer : Answer) : Type 0 where
  pub places : let facts = facts_answered f row.name number answer in
      HavePlaces f.settling.gifts (given_by facts row (l3_device_of facts row))
  pub l3_device : IfSome answer.device (HasRoomAt f.states.reach.at_l3_device)
