-- The clients of a hub over a socket.
use Rattle.std.specs.Prelude.{ℕ, ◌≡◌, List}
use Rattle.plane_outside.specs.declared.event.HubEvent.{HubEvent}
use Rattle.plane_outside.specs.declared.event.HubEvent.TheVariants.{Accepted}

-- a client that came has this user and this group
abbrev pub ComesAs : List ℕ → List ℕ → HubEvent → Type 0
ComesAs user group (Accepted client its_user its_group) = (its_user ≡ user) × (its_group ≡ group)
ComesAs user group event = Unit {0}
