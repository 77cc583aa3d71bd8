-- What is told of a line of a client.
use Rattle.std.proofs.Common.{ℕ, ◌≡◌, List, [], Option, Some, None, refl, subst, ◌∙◌}
use Rattle.std.specs.Prelude.{Result, Ok, Err, IfOk}
use Rattle.std.specs.Option.{option_map}
use Rattle.ubus_frames.specs.declared.frame_error.FrameError.{FrameError}
use Rattle.script_lines.specs.ErrorLine.{error_line}
use Rattle.bus_clients.specs.declared.client_error.ClientError.{ClientError}
use Rattle.bus_clients.specs.declared.client_error.ClientError.TheVariants as client
use Rattle.bus_clients.specs.Bus.{BusPart, Came, Answers}
use Rattle.bus_lines.specs.declared.handled.Handled.{Handled}
use Rattle.bus_lines.specs.ClientLine.{error_of, fault_error}
use Rattle.bus_lines.specs.Replied.{TellsError}
use Rattle.bus_lines.specs.Told.{TellsOf, TellsAnswer}

-- an answer of the bus is told as it comes
tells_answer : {X : Type 0} (expected : Result Came ClientError) (before now : BusPart)
    (sent : List ℕ) (result : Result X ClientError) (told : Handled)
    → Answers expected before now [] sent result → TellsAnswer result sent told
    → TellsOf expected before now told
tells_answer (Ok came) before now sent (Ok done) told answers tells = record {
  part = answers.next;
  sent = tells.0 ∙ answers.lines;
  telling = tells.1;
}
tells_answer (Ok came) before now sent (Err client.Memory) told answers tells = absurd (tells.not refl)
tells_answer (Ok came) before now sent (Err client.ClientOpen) told answers tells = absurd answers
tells_answer (Ok came) before now sent (Err client.NoClient) told answers tells = absurd answers
tells_answer (Ok came) before now sent (Err client.Full) told answers tells = absurd answers
tells_answer (Err why) before now sent (Ok done) told answers tells = absurd (cc answers.answer)
tells_answer (Err why) before now sent (Err error) told answers tells =
    let same : error ≡ why = cc answers.answer in
    record {
      part = answers.same;
      tells = subst (λ (e : ClientError). TellsError (error_of e) told) same tells.tells;
    }

-- what comes of an open or of a close is told
pub tells_of : {X M : Type 0} (expected : Result Came ClientError) (before now : BusPart)
    (front sent : List ℕ) (answered : Result X ClientError) (result : Result Handled M) → front ≡ []
    → Answers expected before now front sent answered → IfOk result (TellsAnswer answered sent)
    → IfOk result (TellsOf expected before now)
tells_of expected before now front sent answered (Ok told) empty answers tells =
    tells_answer expected before now sent answered told
    (subst (λ (f : List ℕ). Answers expected before now f sent answered) empty answers) tells
tells_of expected before now front sent answered (Err lacks) empty answers tells = tt

pub fault_line : (fault : Option FrameError)
    → option_map (λ why. error_line (fault_error why)) fault ≡ option_map error_line (option_map fault_error fault)
fault_line None = refl
fault_line (Some why) = refl
