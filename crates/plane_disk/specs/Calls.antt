-- The calls that a disk in memory has had, and what they leave.
use Rattle.std.specs.Prelude.{List, [], ◌∷◌, ◌++◌, take, if◌then◌else◌}
use Rattle.std.specs.List.{fold}
use Rattle.plane_disk.specs.Files.{Files, bytes_of, with_bytes, put_at}
use Rattle.plane_disk.specs.declared.call.DiskCall.{DiskCall}
use Rattle.plane_disk.specs.declared.call.DiskCall.TheVariants.{Write, Cut, Sync}

-- what a read gives after a call; one that failed leaves it
abbrev pub seen_after : Files → DiskCall → Files
seen_after files (Write file at bytes done) =
    if done then with_bytes files file (put_at (bytes_of files file) at bytes) else files
seen_after files (Cut file size done) =
    if done then with_bytes files file (take size (bytes_of files file)) else files
seen_after files Sync = files

-- what a read gives, what it gave at the last sync that succeeded, and the calls since then
pub record DiskState : Type 0 where
  pub seen : Files
  pub synced : Files
  pub since : List DiskCall

-- a disk that is made of these files
abbrev pub at_first : Files → DiskState
at_first files = record { seen = files; synced = files; since = [] }

abbrev pub after_call : DiskState → DiskCall → DiskState
after_call state Sync = record { seen = state.seen; synced = state.seen; since = [] }
after_call state call = record {
  seen = seen_after state.seen call;
  synced = state.synced;
  since = state.since ++ call ∷ [];
}

-- the state after these calls, one after the other
abbrev pub after_calls : DiskState → List DiskCall → DiskState
after_calls state calls = fold after_call state calls
