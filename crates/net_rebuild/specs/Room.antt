-- Room for what one interface may come to give.
use Rattle.std.specs.Prelude.{ℕ, ◌≡◌, ◌≤◌, ◌^◌, List, length, Option, true}
use Rattle.net_rows.specs.declared.rows.InterfaceRow.{InterfaceRow}
use Rattle.net_rules.specs.declared.answer.Answer.{Answer}
use Rattle.net_rules.specs.declared.inputs.Inputs.{Inputs}
use Rattle.net_rules.specs.Interfaces.{l3_device_of}
use Rattle.net_rules.specs.Want.{given_by, of_options, of_answer}
use Rattle.net_rules.specs.Inputs.{facts_of}
use Rattle.given_objects.specs.Gifts.{Gifts}
use Rattle.net_gifts.specs.Giving.{HavePlaces}
use Rattle.net_follow.specs.Counted.{needs_no_answer}

-- on each device the options of a row, and an answer, give few
pub record GivesFew (row : InterfaceRow) (answer : Option Answer) : Type 0 where
  pub options : (dev : List ℕ) → length (of_options row dev) ≤ 2 ^ 49
  pub answered : (dev : List ℕ) → length (of_answer dev answer) ≤ 2 ^ 49

-- There is a place for what a row gives on its layer-3 device, where it needs no further answer for that. What it gives
-- is few.
pub record HasRowRoom (inputs : Inputs) (row : InterfaceRow) (gs : Gifts) : Type 0 where
  pub places : needs_no_answer (facts_of inputs) row ≡ true
      → HavePlaces gs (given_by (facts_of inputs) row (l3_device_of (facts_of inputs) row))
  pub few : (l3_device : Option (List ℕ)) → length (given_by (facts_of inputs) row l3_device) ≤ 2 ^ 50
