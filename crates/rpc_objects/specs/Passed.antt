-- The folders that a call passes through, and what a stop within it leaves of the files.
use Rattle.std.specs.Prelude.{ℕ, ◌≡◌, ◌⊎◌, false, List, Result}
use Rattle.plane_disk.specs.Files.{Files}
use Rattle.plane_disk.specs.View.{View}
use Rattle.snap_disk.specs.Opened.{State, OpensAs}
use Rattle.snap_disk.specs.Open.{ImagesSince}
use Rattle.blob_codec.specs.declared.blob.Attr.{Attr}
use Rattle.uci_store.specs.declared.store.Store.{Store}
use Rattle.uci_store.specs.Store.{snap_of, has_failed, IsStore}
use Rattle.uci_tool.specs.Folder.{Folder, folder_of}
use Rattle.rpc_rules.specs.declared.rpc_error.RpcError.{RpcError}
use Rattle.rpc_uci.specs.declared.reply.Reply.{Reply}
use Rattle.rpc_uci.specs.Done.{Leads}
use Rattle.rpc_objects.specs.declared.local_object.LocalObject.{LocalObject}
use Rattle.rpc_objects.specs.declared.local_object.LocalObject.TheVariants.{Session, Uci}
use Rattle.rpc_objects.specs.Calls.{Parts, StoreCalled, session_called}

-- a call of the object `uci` leads to these files
pub record UciLeads (now : ℕ) (before : Parts) (method : List ℕ) (args : List Attr) (after : State) : Type 0 where
  pub store : Store
  pub is : folder_of store ≡ before.files
  pub good : IsStore store
  pub ready : has_failed store ≡ false
  pub leads : Leads before.sessions method args now store after

-- The folder is the one in front of the call, or has the files that a call of `uci` leads to, or is the one that such a
-- call leaves, or lacks what a session had staged that was destroyed.
pub data CallPasses (now : ℕ) (before : Parts) (method : List ℕ) (args : List Attr) : LocalObject → Folder
    → Type 0 where
  front : (object : LocalObject) → CallPasses now before method args object before.files
  led : (after : State) → UciLeads now before method args after
      → CallPasses now before method args Uci (record before.files { files = after })
  left : (after : Folder) (called : Result Reply RpcError)
      → StoreCalled now before.sessions method args before.files after called
      → CallPasses now before method args Uci after
  forgot : (word : ℕ) → CallPasses now before method args Session
      (session_called now word before method args).parts.files

-- an image, opened at any moment, gives what one of these folders is to give
pub record OpensIn (names : List (List ℕ)) (Passes : Folder → Type 0) (image : Files) : Type 0 where
  pub folder : Folder
  pub passed : Passes folder
  pub opens : OpensAs names folder.files image

-- every image since the start of the call does
abbrev pub StopsIn : Store → View → View → (Folder → Type 0) → Type 0
StopsIn store old new Passes = ImagesSince (snap_of store) old new (OpensIn old.names Passes)

-- a disk is the value that it was, or its images are such
abbrev pub StaysOrStopsIn : {D : Type 0} → Store → (D → View) → D → D → (Folder → Type 0) → Type 0
StaysOrStopsIn store view old new Passes = (new ≡ old) ⊎ StopsIn store (view old) (view new) Passes
