-- All sessions, as data.
use Rattle.std.specs.Prelude.{ℕ, ◌≡◌, ◌<◌, ◌*◌, ◌^◌, List, [], length, slice_index_or}
use Rattle.rpc_session.specs.declared.session.Session.{Session}

-- the sessions in the order in which they were made, and the number that the next one gets
pub record SessionList : Type 0 where
  pub sessions : List Session
  pub next : ℕ

-- what stands where there is no session
abbrev pub nobody : Session
nobody = record { id = 0; timeout = 0; last_use = 0; grants = []; values = [] }

-- the id at a place
abbrev pub id_at : List Session → ℕ → ℕ
id_at sessions place = let session = slice_index_or sessions place nobody in session.id

-- the ids rise from one session to the next
abbrev pub RiseById : List Session → Type 0
RiseById sessions = (i j : ℕ) → i < j → j < length sessions → id_at sessions i < id_at sessions j

-- the ids rise, below the next one
pub record AreInOrder (sessions : List Session) (next : ℕ) : Type 0 where
  pub rise : RiseById sessions
  pub below : (i : ℕ) → i < length sessions → id_at sessions i < next * 2 ^ 64

-- the session at a place has the id
pub record IsAt (sessions : List Session) (id place : ℕ) : Type 0 where
  pub in_range : place < length sessions
  pub has_id : id_at sessions place ≡ id
