-- A disk in memory.
use Rattle.std.specs.Prelude.{ℕ, ◌≡◌, ◌≤◌, ◌<◌, ◌^◌, ◌⊎◌, List, length, map, drop, Option, Some, None, Contains, Result}
use Rattle.std.specs.Prelude.{OnOk, OnErr, ◌∷◌, [], ◌++◌, Bool, true, false}
use Rattle.plane_words.specs.Causes.{next_count}
use Rattle.plane_disk.specs.Files.{Files}
use Rattle.plane_disk.specs.Names.{AreDiskNames}
use Rattle.plane_disk.specs.View.{View}
use Rattle.plane_disk.specs.Calls.{DiskState, at_first, after_calls}
use Rattle.plane_disk.specs.Images.{IsImage, WasImage}
use Rattle.plane_disk.specs.declared.mem_file.MemFile.{MemFile}
use Rattle.plane_disk.specs.declared.call.DiskCall.{DiskCall}

-- the files that it was made of; its writes, cuts and syncs, in order; the numbers of the calls that fail; after how
-- many calls all fail; the number of calls so far; the faults; and how many growths were refused
pub record DiskInMemory : Type 0 where
  pub start : List MemFile
  pub calls : List DiskCall
  pub failing : List ℕ
  pub fuse : Option ℕ
  pub made : ℕ
  pub faults : ℕ
  pub refused : ℕ

abbrev pub names_of : List MemFile → List (List ℕ)
names_of files = map (λ file. file.name) files

abbrev pub contents_of : List MemFile → Files
contents_of files = map (λ file. file.bytes) files

abbrev pub state_of : DiskInMemory → DiskState
state_of disk = after_calls (at_first (contents_of disk.start)) disk.calls

abbrev pub view_of : DiskInMemory → View
view_of disk = record {
  names = names_of disk.start;
  seen = Some (state_of disk).seen;
  is_image = IsImage (state_of disk);
  moment = length disk.calls;
  was_image = WasImage (contents_of disk.start) disk.calls;
  faults = disk.faults;
}

-- a fuse that passes so many calls has blown at the call of that number
abbrev pub HasBlown : Option ℕ → ℕ → Type 0
HasBlown None number = ⊥
HasBlown (Some passed) number = passed < number

-- the call of that number fails by the list or by the fuse
abbrev pub IsToFail : List ℕ → Option ℕ → ℕ → Type 0
IsToFail failing fuse number = Contains failing number ⊎ HasBlown fuse number

-- How a call ends: it fails exactly where its number says so or a growth was refused.
pub record Ends {T E : Type 0} (old new : DiskInMemory) (result : Result T E) : Type 0 where
  pub start : new.start ≡ old.start
  pub failing : new.failing ≡ old.failing
  pub fuse : new.fuse ≡ old.fuse
  pub made : new.made ≡ next_count old.made
  pub fails : OnErr result
      (IsToFail old.failing old.fuse new.made ⊎ (new.refused ≡ next_count old.refused))
  pub passes : OnOk result (¬ (IsToFail old.failing old.fuse new.made))
  pub faultless : OnOk result ((new.refused ≡ old.refused) × (new.faults ≡ old.faults))
  pub later : old.refused ≤ new.refused

-- What a call leaves in the record: that it was done, that it failed, or nothing where a growth was refused.
pub record Records {T E : Type 0} (old new : DiskInMemory) (result : Result T E)
    (call : Bool → DiskCall) : Type 0 where
  pub ok : OnOk result (new.calls ≡ old.calls ++ call true ∷ [])
  pub err : OnErr result ((new.calls ≡ old.calls ++ call false ∷ [])
      ⊎ ((new.calls ≡ old.calls) × (new.refused ≡ next_count old.refused)))

-- what the fields of a disk in memory keep: what a read gives, and what it gave at the last sync, after which so many
-- calls had been recorded
pub record IsKept (start : List MemFile) (calls : List DiskCall) (seen synced : Files)
    (recorded : ℕ) : Type 0 where
  pub named : AreDiskNames (names_of start)
  pub few : length start < 2 ^ 32
  pub within : recorded ≤ length calls
  pub state : after_calls (at_first (contents_of start)) calls
      ≡ record { seen = seen; synced = synced; since = drop recorded calls }
