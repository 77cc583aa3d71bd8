-- How a run of a script ends, and when.
use Rattle.std.specs.Prelude.{ℕ, ◌≡◌, Result, Ok, Err, ⊤}
use Rattle.ubus_acl.specs.declared.acl.Acl.{Acl}
use Rattle.ubus_acl.specs.declared.access_error.AclError.{AclError}
use Rattle.ubus_acl.specs.Form.{acl_of}
use Rattle.plane_run.specs.Opening.{First}
use Rattle.plane_run.specs.Run.{Seen as RunSeen, RunEnds}
use Rattle.plane_run.specs.Comes.{RunComes}
use Rattle.plane_run.specs.Parts.{KeepsDisks}
use Rattle.plane_run.specs.Stops.{RunStops}
use Rattle.plane_main.specs.declared.run_words.RunAsked.{RunAsked}
use Rattle.plane_main.specs.declared.ending.Ending.{Ending}
use Rattle.plane_main.specs.declared.ending.Ending.TheVariants as ending
use Rattle.plane_main.specs.Outside.{Seen, stream_of_input}
use Rattle.plane_main.specs.RunWords.{IsList}

-- what it finds at its moment
abbrev pub first_of : ℕ → Acl → Seen → First
first_of moment acl seen = record {
  now = moment;
  acl = acl;
  words = seen.random;
  files = seen.folders.files;
  staged = seen.folders.staged;
  before = seen.before;
}

-- what it sees
abbrev pub run_seen : ℕ → Acl → Seen → RunSeen
run_seen moment acl seen = record {
  first = first_of moment acl seen;
  input = stream_of_input seen.input;
  files_now = seen.folders.files_now;
  staged_now = seen.folders.staged_now;
  after = seen.after;
}

-- Why it ends so, and what it leaves; what a stop leaves of the files, whenever it comes; and the disks stay the same
-- ones, of which each that tells its files goes on to tell them.
abbrev pub ScriptEnds : ℕ → Acl → Seen → Ending → Type 0
ScriptEnds moment acl seen (ending.OfRun end) = RunEnds (run_seen moment acl seen) end
    × RunStops (first_of moment acl seen) (stream_of_input seen.input) seen.folders.files_now
    × KeepsDisks seen.folders.files seen.folders.files_now seen.folders.staged seen.folders.staged_now
ScriptEnds moment acl seen _ = ⊥

-- an access list that does not read is a usage
abbrev pub EndsWith : Result Acl AclError → ℕ → Seen → Ending → Type 0
EndsWith (Ok acl) moment seen end = ScriptEnds moment acl seen end
EndsWith (Err why) moment seen end = end ≡ ending.Usage

abbrev pub AskedEnds : RunAsked → Seen → Ending → Type 0
AskedEnds asked = EndsWith (acl_of asked.acl) asked.moment

-- When it ends so.
abbrev pub ScriptComes : ℕ → Acl → Seen → Ending → Type 0
ScriptComes moment acl seen (ending.OfRun end) = RunComes (run_seen moment acl seen) end
ScriptComes moment acl seen _ = ⊥

abbrev pub ComesWith : Result Acl AclError → ℕ → Seen → Ending → Type 0
ComesWith (Ok acl) moment seen end = ScriptComes moment acl seen end
ComesWith (Err why) moment seen end = end ≡ ending.Usage

abbrev pub AskedComes : RunAsked → Seen → Ending → Type 0
AskedComes asked = ComesWith (acl_of asked.acl) asked.moment

-- the access list of a run was read, or why the run ends in front of all else
abbrev pub ReadsAcl : Result Acl AclError → Result Acl Ending → Type 0
ReadsAcl is (Ok acl) = is ≡ Ok acl
ReadsAcl is (Err ending.Usage) = IsList is → ⊥
ReadsAcl is (Err ending.OutOfMemory) = ⊤
ReadsAcl is (Err _) = ⊥
