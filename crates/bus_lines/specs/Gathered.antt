-- What is gathered of the frames of a line: the lines of sends and of requests, and the first refusal.
use Rattle.std.specs.Prelude.{◌≡◌, ◌++◌}
use Rattle.std.specs.Option.{option_map}
use Rattle.script_lines.specs.ErrorLine.{error_line}
use Rattle.bus_clients.specs.Bus.{BusPart, Came, IsTold}
use Rattle.rpc_objects.specs.declared.outcome.Outcome.{Outcome}
use Rattle.bus_lines.specs.declared.gathered.Gathered.{Gathered}
use Rattle.bus_lines.specs.Did.{Did, first_of}

-- what was done stands behind what was gathered
pub record Gathers (did : Did) (before after : Gathered) : Type 0 where
  pub sent : after.sent.items ≡ before.sent.items ++ did.sent
  pub requests : after.requests.items ≡ before.requests.items ++ did.requests
  pub refusal : after.refusal ≡ first_of before.refusal (option_map error_line did.refusal)

-- a reply was sent, and what else came of its call stands behind what was gathered
pub record HasReplied (came : Came) (part : BusPart) (before after : Gathered) (outcome : Outcome) : Type 0 where
  pub is : IsTold came part before.sent.items after.sent.items
  pub requests : after.requests.items ≡ before.requests.items ++ outcome.requests
  pub refusal : after.refusal ≡ first_of before.refusal outcome.refusal
