-- What is told of names, level by level.
use Rattle.std.specs.Prelude.{ℕ, ◌≡◌, List, Bool, false, ◌&&◌, map, Option, Some, None, is_none}
use Rattle.net_rows.specs.Dotted.{vlan_parts}
use Rattle.net_rules.specs.declared.inputs.Inputs.{Inputs}
use Rattle.net_rules.specs.Facts.{Facts}
use Rattle.net_rules.specs.Levels.{by_levels}
use Rattle.net_rules.specs.Rows.{names_of}
use Rattle.net_rules.specs.Available.{is_present, has_carrier, opens_at, links_at}
use Rattle.net_rules.specs.Inputs.{facts_of}
use Rattle.net_view.specs.RadioPorts.{ArePortsOf}
use Rattle.net_view.specs.declared.levels.Question.{Question}
use Rattle.net_view.specs.declared.levels.Question.TheVariants.{Available, Link}
use Rattle.net_view.specs.declared.levels.Told.{Told}
use Rattle.net_view.specs.declared.levels.Levels.{Levels}

-- what is asked of a name, by the answers for those below it
abbrev pub step_of : Facts → Question → (List ℕ → Bool) → List ℕ → Bool
step_of facts Available = opens_at facts
step_of facts Link = links_at facts

-- the answers that look so many levels down
abbrev pub test_of : Facts → Told → List ℕ → Bool
test_of facts told = by_levels told.levels (step_of facts told.question)

-- the answers of the rows are right
abbrev pub IsTold : Facts → Told → Type 0
IsTold facts told = told.by_row.items ≡ map (test_of facts told) (names_of facts.conf)

-- they are those to a question, by so many levels
pub record IsToldBy (facts : Facts) (asked : Question) (count : ℕ) (told : Told) : Type 0 where
  pub question : told.question ≡ asked
  pub levels : told.levels ≡ count
  pub right : IsTold facts told

abbrev pub IsAvailability : Facts → Told → Type 0
IsAvailability facts told = IsToldBy facts Available 8 told

abbrev pub IsLink : Facts → Told → Type 0
IsLink facts told = IsToldBy facts Link 8 told

-- a name without a row is there where a device of it is present, unless it is of the form X.N
abbrev pub without_row : Facts → Question → List ℕ → Bool
without_row facts Available name = is_present facts name && is_none (vlan_parts name)
without_row facts Link name = has_carrier facts name && is_none (vlan_parts name)

-- what is told of a name, where there is one
abbrev pub below_option : (List ℕ → Bool) → Option (List ℕ) → Bool
below_option test None = false
below_option test (Some name) = test name

-- the ports of radios, availability and link are those of the inputs
pub record AreLevelsOf (inputs : Inputs) (levels : Levels) : Type 0 where
  pub ports : ArePortsOf inputs levels.ports
  pub available : IsAvailability (facts_of inputs) levels.available
  pub link : IsLink (facts_of inputs) levels.link
