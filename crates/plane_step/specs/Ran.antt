-- What a line and a script left outside.
use Rattle.std.specs.Prelude.{ℕ, ◌≡◌, ◌≢◌, ◌≤◌, List, [], ◌∷◌, ◌++◌, Bool, codes, Option, Result, Ok, Err, ⊤}
use Rattle.plane_words.specs.Causes.{Rose, DidNotRise}
use Rattle.plane_words.specs.Growth.{GrowsByFront}
use Rattle.kern_model.specs.declared.object.Call.{Call}
use Rattle.kern_model.specs.CallOrder.{after_calls}
use Rattle.uci_text.specs.declared.line.Line.{Line}
use Rattle.net_settle.specs.Outside.{Outside}
use Rattle.step_net.specs.Effects.{Leaves, LeavesInPart}
use Rattle.step_net.specs.Finished.{KeepsPace}
use Rattle.plane_step.specs.declared.stop.Stop.{Stop}
use Rattle.plane_step.specs.declared.stop.Stop.TheVariants as stop
use Rattle.plane_step.specs.Faults.{DiskFaults, DiskRose}
use Rattle.rpc_objects.specs.Cut.{Cut}
use Rattle.bus_lines.specs.World.{World}
use Rattle.plane_outside.specs.Supply.{Supply, Uses}
use Rattle.bus_lines.specs.Did.{Did}
use Rattle.plane_step.specs.Does.{LineDoes}
use Rattle.plane_step.specs.Passed.{LinePasses, LineCuts, LineFails}
use Rattle.plane_step.specs.Moved.{Luck, Moved, moved, failures_of, failures, Folds}

-- the random words to come, then and now
pub record Words : Type 0 where
  pub before : Supply
  pub after : Supply

-- a line was carried out to its answer, with some luck
pub record CarriedOut (line : Line) (world now : World) (words : Words) (before after : Outside)
    (is_ok : Bool) : Type 0 where
  pub luck : Luck
  pub did : Did
  pub does : LineDoes world line luck.words luck.events did
  pub next : now ≡ (moved did luck.failed_after).world
  pub answer : is_ok ≡ (moved did luck.failed_after).is_ok
  pub used : Uses words.before did.words words.after
  pub left : Leaves (moved did luck.failed_after).effects (failures_of luck) before after

-- There are lines of sends, which were written in part, and no call was made. Or they were written, and what stands
-- behind them keeps pace with the calls.
pub data PacesBehind (sent : List ℕ) (calls left : List Call) (text : List ℕ) : Type 0 where
  within : sent ≢ [] → (rest : List ℕ) → sent ≡ text ++ rest → calls ≡ []
      → PacesBehind sent calls left text
  behind : (more : List ℕ) → text ≡ sent ++ more → KeepsPace calls left more
      → PacesBehind sent calls left text

-- The output failed in a line: a front of what is seen of it outside was seen, the lines of its calls
-- with them. The kernel holds what it held behind the events of the line and that front of the calls,
-- and the files are those behind it.
pub record CutShort (line : Line) (world now : World) (before after : Outside) : Type 0 where
  pub luck : Luck
  pub did : Did
  pub does : LineDoes world line luck.words luck.events did
  pub left : LeavesInPart (moved did luck.failed_after).effects (failures_of luck) before after
  pub pace : PacesBehind did.sent left.front.calls left.back.calls left.front.text
  pub objects : after.objects ≡ after_calls did.world.net.held left.front.calls
  pub cause : Rose before.out_faults after.out_faults
  pub files : now.files ≡ did.world.files

-- this was written of a line: all of it, or a front where the output failed
pub record IsWritten (text line : List ℕ) (before after : Outside) : Type 0 where
  pub back : List ℕ
  pub parts : line ≡ text ++ back
  pub whole : DidNotRise before.out_faults after.out_faults → back ≡ []

-- A line was cut in one of these ways, and no call was made: of its text this last line alone was written, or a front
-- of that.
pub record IsCutWith (last : List ℕ) (Cuts : Cut → Type 0) (before after : Outside) : Type 0 where
  pub cut : Cut
  pub cuts : Cuts cut
  pub text : List ℕ
  pub written : IsWritten text last before after
  pub left : Leaves (record { asked = cut.asked; calls = []; text = text }) cut.failures before after
  pub objects : after.objects ≡ cut.held

-- the last line of a script for which there is no memory, and of one in which a disk failed
abbrev pub memory_line : List ℕ
memory_line = codes "error 8 memory\n"

abbrev pub disk_line : List ℕ
disk_line = codes "error 30 disk\n"

-- an output grew by a line, or by a front of it where it failed
pub record Tells (line : List ℕ) (old new : Option (List ℕ)) (faults faults_now : ℕ)
    : Type 0 where
  pub written : GrowsByFront old new line
  pub later : faults ≤ faults_now
  pub whole : DidNotRise faults faults_now → written.back ≡ []

-- what is told where a script ends in a line that is not carried out
abbrev pub TellsHalt : Stop → Option (List ℕ) → Option (List ℕ) → ℕ → ℕ → Type 0
TellsHalt stop.DiskFailed old new faults faults_now = Tells disk_line old new faults faults_now
TellsHalt stop.Memory old new faults faults_now = Tells memory_line old new faults faults_now
TellsHalt stop.WriteFailed old new faults faults_now = ⊤

-- There was no memory for a line. The files are then some that the line passes through.
pub record LackedMemory (line : Line) (world now : World) (before after : Outside) : Type 0 where
  pub lacks : IsCutWith memory_line (LineCuts world line) before after
  pub files : LinePasses world line now.files

-- A disk failed in a line, and that was written.
pub record FailedOnDisk (line : Line) (world : World) (disks : DiskFaults) (before after : Outside)
    : Type 0 where
  pub cause : DiskRose disks
  pub tells : IsCutWith disk_line (LineFails world line) before after

-- how a line ends
abbrev pub LineEnds : Line → World → World → DiskFaults → Words → Outside → Outside → Result Bool Stop → Type 0
LineEnds line world now disks words before after (Ok is_ok) =
    CarriedOut line world now words before after is_ok
LineEnds line world now disks words before after (Err stop.WriteFailed) =
    CutShort line world now before after
LineEnds line world now disks words before after (Err stop.DiskFailed) =
    FailedOnDisk line world disks before after
LineEnds line world now disks words before after (Err stop.Memory) =
    LackedMemory line world now before after

-- a script was carried out to its end, each line with some luck
pub record Ran (start : World) (lines : List Line) (now : World) (words : Words)
    (before after : Outside) (is_ok : Bool) : Type 0 where
  pub lucks : List Luck
  pub end : Moved
  pub folds : Folds start lines lucks end
  pub next : now ≡ end.world
  pub answer : is_ok ≡ end.is_ok
  pub used : Uses words.before end.words words.after
  pub left : Leaves end.effects (failures lucks) before after

-- The lines in front of one were carried out to their end, and the script stopped in it so. What is
-- said of the images of the files holds for the lines up to this one.
pub record StopsIn (Stops : Line → World → Outside → Outside → Type 0)
    (Images : List Line → Type 0) (start : World) (lines : List Line) (supply : Supply)
    (before after : Outside) : Type 0 where
  pub done : List Line
  pub line : Line
  pub rest : List Line
  pub parts : lines ≡ done ++ line ∷ rest
  pub world : World
  pub is_ok : Bool
  pub words : Supply
  pub between : Outside
  pub ran : Ran start done world (record { before = supply; after = words }) before between is_ok
  pub stops : Stops line world between after
  pub images : Images (done ++ line ∷ [])

-- how a script ends
abbrev pub ScriptEnds : World → List Line → World → DiskFaults → Words → (List Line → Type 0)
    → Outside → Outside → Result Bool Stop → Type 0
ScriptEnds start lines now disks words Images before after (Ok is_ok) =
    Ran start lines now words before after is_ok × Images lines
ScriptEnds start lines now disks words Images before after (Err stop.WriteFailed) =
    StopsIn (λ line world between end. CutShort line world now between end) Images start lines
    words.before before after
ScriptEnds start lines now disks words Images before after (Err stop.DiskFailed) =
    StopsIn (λ line world between end. FailedOnDisk line world disks between end) Images start
    lines words.before before after
ScriptEnds start lines now disks words Images before after (Err stop.Memory) =
    StopsIn (λ line world between end. LackedMemory line world now between end) Images start lines
    words.before before after
