-- What a hub of clients gives and takes.
use Rattle.std.specs.Prelude.{ℕ, ◌≡◌, ◌≤◌, ◌⊎◌, List, [], ◌∷◌, ◌++◌, length, Option, Some, None, Result, Err}
use Rattle.plane_words.specs.Causes.{Rose}
use Rattle.plane_outside.specs.declared.event.HubEvent.{HubEvent}
use Rattle.plane_outside.specs.declared.event.HubEvent.TheVariants.{Bytes, Idle}
use Rattle.plane_outside.specs.declared.event.HubError.{HubError}
use Rattle.plane_outside.specs.declared.event.HubError.TheVariants.{Failed, Memory}
use Rattle.plane_outside.specs.declared.event.Sent.{Sent}

-- bytes come in pieces of 1 to 65,536
abbrev pub IsWhole : HubEvent → Type 0
IsWhole (Bytes client bytes) = (1 ≤ length bytes) × (length bytes ≤ 65536)
IsWhole event = Unit {0}

-- A hub that told the events it has left gave the first of them, or that there is none where none was left. `Idle` in
-- the list says that there is none at that call.
abbrev pub Gives : Option (List HubEvent) → Option (List HubEvent) → HubEvent → Type 0
Gives None new event = new ≡ None
Gives (Some []) new event = (new ≡ Some []) × (event ≡ Idle)
Gives (Some (next ∷ rest)) new event = (new ≡ Some rest) × (event ≡ next)

-- A hub that told what was sent holds one piece more.
abbrev pub Sends : Option (List Sent) → Option (List Sent) → ℕ → List ℕ → Type 0
Sends None new client bytes = new ≡ None
Sends (Some old) new client bytes =
    new ≡ Some (old ++ (record { client = client; bytes = bytes }) ∷ [])

-- A send that failed sent nothing, or a front of the bytes.
abbrev pub SendsFront : Option (List Sent) → Option (List Sent) → ℕ → List ℕ → Type 0
SendsFront old new client bytes =
    (new ≡ old)
    ⊎ ((front : List ℕ) × (back : List ℕ) × (bytes ≡ front ++ back) × Sends old new client front)

-- A call never lowers the count of faults, and answers that the hub failed only where it rose. Want of memory is no
-- fault, and leaves the count.
pub record HubCause {T : Type 0} (before now : ℕ) (result : Result T HubError) : Type 0 where
  pub later : before ≤ now
  pub failed : result ≡ Err Failed → Rose before now
  pub memory : result ≡ Err Memory → now ≡ before
