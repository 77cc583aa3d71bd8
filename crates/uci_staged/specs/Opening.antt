-- How staged changes are read.
use Rattle.std.specs.Prelude.{ℕ, ◌≡◌, List, ◌++◌, map, Some}
use Rattle.plane_disk.specs.Files.{Files, bytes_of}
use Rattle.plane_disk.specs.Names.{name_at}
use Rattle.plane_disk.specs.View.{View}
use Rattle.uci_delta.specs.declared.delta.Delta.{Delta}
use Rattle.uci_delta.specs.Deltas.{AreDeltas}
use Rattle.uci_staged.specs.declared.change.StagedChange.{StagedChange}

-- a change of holder 0, of the package of that file
abbrev pub own_change : ℕ → Delta → StagedChange
own_change file delta = record { holder = 0; file = file; delta = delta }

-- the changes have grown by those of a text, which is that of the file where the disk tells it
pub record HasRead (view : View) (file : ℕ) (old new : List StagedChange) : Type 0 where
  pub deltas : List Delta
  pub text : List ℕ
  pub read : AreDeltas (name_at view.names file) text deltas
  pub told : (files : Files) → view.seen ≡ Some files → text ≡ bytes_of files file
  pub grown : new ≡ old ++ map (own_change file) deltas
