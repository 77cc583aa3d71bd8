-- What the handler of a radio answers, as JSON: a port for each of its sections, where there is one.
use Rattle.std.specs.Prelude.{ℕ, ◌≡◌, List, codes, Option, Some, None}
use Rattle.serde_json.specs.Data.{Data, null}
use Rattle.serde_json.specs.Find.{get}
use Rattle.answer_json.specs.Members.{IsArray}
use Rattle.answer_json.specs.AnswerJson.{IsDevice}

-- the name of a device, or none
abbrev pub IsPort : Data → Option (List ℕ) → Type 0
IsPort value None = value ≡ null
IsPort value (Some name) = IsDevice value name

-- an object with these ports
pub record ArePorts (value : Data) (ports : List (Option (List ℕ))) : Type 0 where
  pub member : Data
  pub there : get (codes "ports") value ≡ Some member
  pub array : IsArray IsPort member ports
