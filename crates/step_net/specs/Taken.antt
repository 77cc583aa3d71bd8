-- What the code made of a line before its settling.
use Rattle.std.specs.Prelude.{ℕ, ◌≡◌, ◌⊎◌, List, [], Bool, false, ⊤, Option, Some, None, Result, Ok, Err}
use Rattle.plane_words.specs.Causes.{RoseBy}
use Rattle.kern_model.specs.declared.kernel.Asked.{Asked}
use Rattle.kern_model.specs.declared.kernel.Kernel.{Ghosts as KernelMembers}
use Rattle.kern_model.specs.Kernel.{Records}
use Rattle.net_plane.specs.declared.net_error.NetError.{NetError}
use Rattle.net_plane.specs.Network.{Network, moment_of}
use Rattle.script_lines.specs.declared.line_error.LineError.{LineError}
use Rattle.step_net.specs.declared.taken.Taken.{Taken}
use Rattle.step_net.specs.declared.told.Told.{Told}
use Rattle.step_net.specs.NetLine.{NetLine}
use Rattle.step_net.specs.Acted.{Acted, acted, lines_of_requests}
use Rattle.step_net.specs.Moved.{Telling, telling_of, once_if}
use Rattle.step_net.specs.Told.{refused, telling, line_error}

abbrev pub telling_in : Told → Telling
telling_in told = record { shown = told.shown; refusal = told.refusal }

-- the line was acted on, and what is to be told of it is kept; nothing else is left to be told
pub record IsActed (done : Acted) (now : Network) (told : Told) : Type 0 where
  pub net : moment_of now ≡ done.net
  pub telling : telling_in told ≡ telling_of done
  pub silent : now.notices ≡ []

-- an event was acted on, and its requests and its refusal are kept; it replies nothing, and nothing else is left to be
-- told
pub record IsNoted (done : Acted) (now : Network) (taken : Taken) : Type 0 where
  pub net : moment_of now ≡ done.net
  pub requests : taken.requests ≡ done.requests
  pub refusal : taken.refusal ≡ done.refused
  pub reply : done.reply ≡ []
  pub silent : now.notices ≡ []

-- there was no memory, before anything was done or for what is to be told
abbrev pub IsHalted : Acted → Network → Network → Type 0
IsHalted done before now = (now ≡ before) ⊎ (moment_of now ≡ done.net)

-- a line at which the kernel cannot fail, and what is kept of it
abbrev pub TakesAs : {T M : Type 0} → (Acted → Network → T → Type 0) → NetLine → Network → Network
    → Result T M → Type 0
TakesAs Is line before now (Ok kept) = Is (acted (moment_of before) line false) now kept
TakesAs Is line before now (Err lacks) =
    IsHalted (acted (moment_of before) line false) before now

-- kept to be told
abbrev pub Takes : {M : Type 0} → NetLine → Network → Network → Result Told M → Type 0
Takes {M} line before now result = TakesAs {M = M} IsActed line before now result

-- kept for whoever brought the event
abbrev pub TakesEvent : {M : Type 0} → NetLine → Network → Network → Result Taken M → Type 0
TakesEvent {M} line before now result = TakesAs {M = M} IsNoted line before now result

-- what the kernel was asked before and after, and its counts of faults
pub record Telled : Type 0 where
  pub asked : Option (List Asked)
  pub asked_now : Option (List Asked)
  pub faults : ℕ
  pub faults_now : ℕ

-- the kernel was asked this, and the count rose where it failed
pub record Asks (what : List Asked) (failed : Bool) (kernel : Telled) : Type 0 where
  pub asked : Records kernel.asked kernel.asked_now what
  pub cause : RoseBy (once_if failed) kernel.faults kernel.faults_now

-- a line at which the kernel may have failed, and what is kept of it
pub record IsTakenAs {T : Type 0} (Is : Acted → Network → T → Type 0) (line : NetLine)
    (before now : Network) (kernel : Telled) (kept : T) : Type 0 where
  pub failed : Bool
  pub is : Is (acted (moment_of before) line failed) now kept
  pub requests : Asks (acted (moment_of before) line failed).asked failed kernel

abbrev pub IsTaken : NetLine → Network → Network → Telled → Told → Type 0
IsTaken line before now kernel told = IsTakenAs IsActed line before now kernel told

-- there was no memory, before the kernel was asked or after
pub data IsLeft (line : NetLine) (before now : Network) (kernel : Telled) : Type 0 where
  in_front : now ≡ before → Asks [] false kernel → IsLeft line before now kernel
  behind : (failed : Bool) → moment_of now ≡ (acted (moment_of before) line failed).net
      → Asks (acted (moment_of before) line failed).asked failed kernel
      → IsLeft line before now kernel

abbrev pub TriesAs : {T M : Type 0} → (Acted → Network → T → Type 0) → NetLine → Network → Network
    → Telled → Result T M → Type 0
TriesAs Is line before now kernel (Ok kept) = IsTakenAs Is line before now kernel kept
TriesAs Is line before now kernel (Err lacks) = IsLeft line before now kernel

abbrev pub Tries : {M : Type 0} → NetLine → Network → Network → Telled → Result Told M → Type 0
Tries {M} line before now kernel result = TriesAs {M = M} IsActed line before now kernel result

abbrev pub TriesEvent : {M : Type 0} → NetLine → Network → Network → Telled → Result Taken M
    → Type 0
TriesEvent {M} line before now kernel result = TriesAs {M = M} IsNoted line before now kernel result

abbrev pub telled_of : {K : Type 0} → KernelMembers K → K → K → Telled
telled_of kernel before after = record {
  asked = kernel.asked before;
  asked_now = kernel.asked after;
  faults = kernel.faults before;
  faults_now = kernel.faults after;
}

-- the error is told
abbrev pub Tells : Option LineError → Told → Type 0
Tells None told = ⊥
Tells (Some e) told = telling_in told ≡ refused e

-- an event brings these lines of requests
abbrev pub asking : List ℕ → Taken
asking lines = record { requests = lines; refusal = None }

-- it brings none, and is refused for this
abbrev pub refused_as : LineError → Taken
refused_as e = record { requests = []; refusal = Some e }

-- it is refused with the error, where that is told by a line
abbrev pub IsRefusedFor : Option LineError → Taken → Type 0
IsRefusedFor None taken = ⊥
IsRefusedFor (Some e) taken = taken ≡ refused_as e

-- What is kept of how an event ended. Where it was taken, all that is to be told of requests is handed
-- out. Where it was refused, its error is kept, and nothing changes. Either may want memory.
abbrev pub Ends : {X M : Type 0} → Result X NetError → Network → Network → Result Taken M → Type 0
Ends (Ok x) before now (Ok taken) =
    (taken ≡ asking (lines_of_requests before.inputs.conf before.notices)) × (now.notices ≡ [])
Ends (Err e) before now (Ok taken) = IsRefusedFor (line_error e) taken × (now ≡ before)
Ends (Ok x) before now (Err lacks) = ⊤
Ends (Err e) before now (Err lacks) = now ≡ before

-- a line is told of an event; there may be no memory for what is to be told
abbrev pub IsToldOf : {M N : Type 0} → Result Taken M → Result Told N → Type 0
IsToldOf (Ok taken) (Ok told) = telling_in told ≡ telling taken.requests taken.refusal
IsToldOf (Ok taken) (Err lacks) = ⊤
IsToldOf (Err lacks) (Ok told) = ⊥
IsToldOf (Err lacks) (Err none) = ⊤

-- a line that shows something and changes nothing
abbrev pub Shows : {M : Type 0} → NetLine → Network → Result Told M → Type 0
Shows line now (Ok told) = telling_in told ≡ telling_of (acted (moment_of now) line false)
Shows line now (Err lacks) = ⊤
