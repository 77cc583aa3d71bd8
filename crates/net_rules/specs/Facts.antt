-- All that decides what is wanted of the kernel. No number of a request and no earlier state is among
-- it.
use Rattle.std.specs.Prelude.{ℕ, List, Bool, Option}
use Rattle.kern_model.specs.declared.object.Device.{Device}
use Rattle.net_rows.specs.declared.rows.Conf.{Conf}
use Rattle.net_rules.specs.declared.answer.Answer.{Answer}

-- The rows. By name: the present devices with what they came with, the last operator operator state for an
-- interface (up or not), the latest answer to the open request of an interface, and that to the open
-- ask of a radio.
pub record Facts : Type 0 where
  pub conf : Conf
  pub device : List ℕ → Option Device
  pub operator_state : List ℕ → Option Bool
  pub answer : List ℕ → Option Answer
  pub ports : List ℕ → Option (List (Option (List ℕ)))
