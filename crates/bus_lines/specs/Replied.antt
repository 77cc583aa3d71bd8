-- What is told of a line that calls a method.
use Rattle.std.specs.Prelude.{ℕ, ◌≡◌, ◌++◌, List, [], Option, None, false}
use Rattle.std.specs.Option.{option_map}
use Rattle.script_lines.specs.declared.line_error.LineError.{LineError}
use Rattle.script_lines.specs.declared.line_error.LineError.TheVariants as error
use Rattle.script_lines.specs.ErrorLine.{error_line}
use Rattle.step_net.specs.declared.told.Told.{Told}
use Rattle.step_net.specs.Told.{refused}
use Rattle.step_net.specs.Taken.{telling_in}
use Rattle.call_texts.specs.ReplyLine.{reply_line}
use Rattle.rpc_objects.specs.declared.local_answer.LocalAnswer.{LocalAnswer}
use Rattle.rpc_objects.specs.declared.outcome.Outcome.{Outcome}
use Rattle.bus_lines.specs.declared.handled.Handled.{Handled}
use Rattle.bus_lines.specs.Did.{first_of}
use Rattle.bus_lines.specs.CallLine.{status_at}

-- a call is answered so, and nothing else comes of it
pub record IsQuiet (answer : LocalAnswer) (outcome : Outcome) : Type 0 where
  pub is : outcome.answer ≡ answer
  pub requests : outcome.requests ≡ []
  pub refusal : outcome.refusal ≡ None
  pub created : outcome.has_created ≡ false

-- the refusal of a line whose call has this status, or else this one
abbrev pub refusal_line : ℕ → Option (List ℕ) → Option (List ℕ)
refusal_line status refusal =
    first_of (option_map (λ why. error_line (error.Status why)) (status_at status)) refusal

-- this is shown, and the line is refused by the status or so
pub record TellsReply (text : List ℕ) (status : ℕ) (refusal : Option (List ℕ)) (told : Told) : Type 0 where
  pub shown : told.shown ≡ text
  pub line : told.refusal ≡ refusal_line status refusal

-- a call is told: its requests and its reply, and its status or the refusal of the reload behind it
pub record TellsOutcome (outcome : Outcome) (told : Handled) : Type 0 where
  pub sent : told.sent ≡ []
  pub shown : told.told.shown
      ≡ outcome.requests ++ reply_line outcome.answer.status outcome.answer.payload
  pub refusal : told.told.refusal ≡ refusal_line outcome.answer.status outcome.refusal

-- a line is refused with this error
pub record TellsError (why : LineError) (told : Handled) : Type 0 where
  pub sent : told.sent ≡ []
  pub telling : telling_in told.told ≡ refused why
