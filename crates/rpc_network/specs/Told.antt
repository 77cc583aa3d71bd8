-- What the code made of a call.
use Rattle.std.specs.Prelude.{ℕ, ◌≡◌, List, [], Bool, false, ⊤, Option, Some, None, Result, Ok, Err}
use Rattle.serde_json.specs.Data.{Data}
use Rattle.blob_json.specs.FromJson.{attrs_of}
use Rattle.net_plane.specs.declared.net_error.NetError.{NetError}
use Rattle.net_plane.specs.Network.{Network, moment_of}
use Rattle.script_lines.specs.declared.call_status.CallStatus.{CallStatus}
use Rattle.step_net.specs.NetLine.{NetLine}
use Rattle.step_net.specs.declared.taken.Taken.{Taken}
use Rattle.step_net.specs.Taken.{Telled, Asks, IsLeft}
use Rattle.rpc_network.specs.declared.net_answer.NetAnswer.{NetAnswer}
use Rattle.rpc_network.specs.Answered.{Answered, answered, ended, status_of_net, refused_as, payload_of}

-- the call was carried out, and is answered so; nothing else is left to be told
pub record IsAnswered (done : Answered) (now : Network) (told : NetAnswer) : Type 0 where
  pub net : moment_of now ≡ done.net
  pub requests : told.requests ≡ done.requests
  pub answer : told.answer ≡ done.answer
  pub silent : now.notices ≡ []

-- a call at which the kernel may have failed
pub record IsTaken (line : NetLine) (before now : Network) (kernel : Telled) (told : NetAnswer) : Type 0 where
  pub failed : Bool
  pub is : IsAnswered (answered (moment_of before) line failed) now told
  pub requests : Asks (answered (moment_of before) line failed).asked failed kernel

abbrev pub Tries : {M : Type 0} → NetLine → Network → Network → Telled → Result NetAnswer M → Type 0
Tries line before now kernel (Ok told) = IsTaken line before now kernel told
Tries line before now kernel (Err lacks) = IsLeft line before now kernel

-- A call is answered by what its event came to: the lines of requests and an empty payload, or the status of its
-- refusal.
abbrev pub IsAnswerTo : {M N : Type 0} → Result Taken M → Result NetAnswer N → Type 0
IsAnswerTo (Ok taken) (Ok told) = told ≡ record { requests = taken.requests; answer = ended taken.refusal }
IsAnswerTo (Ok taken) (Err lacks) = ⊥
IsAnswerTo (Err lacks) (Ok told) = ⊥
IsAnswerTo (Err lacks) (Err none) = ⊤

-- the error is told as a status
abbrev pub TellsStatus : Option CallStatus → NetAnswer → Type 0
TellsStatus None told = ⊥
TellsStatus (Some why) told = told ≡ refused_as why

abbrev pub TellsError : NetError → NetAnswer → Type 0
TellsError e told = TellsStatus (status_of_net e) told

-- this value is the payload, and nothing is asked
pub record ShowsValue (value : Data) (told : NetAnswer) : Type 0 where
  pub requests : told.requests ≡ []
  pub answer : told.answer ≡ payload_of (attrs_of value)

-- the same of an answer
pub record IsShown (done : Answered) (told : NetAnswer) : Type 0 where
  pub requests : told.requests ≡ done.requests
  pub answer : told.answer ≡ done.answer

-- a call that shows something and changes nothing
abbrev pub Shows : {M : Type 0} → NetLine → Network → Result NetAnswer M → Type 0
Shows line now (Ok told) = IsShown (answered (moment_of now) line false) told
Shows line now (Err lacks) = ⊤
