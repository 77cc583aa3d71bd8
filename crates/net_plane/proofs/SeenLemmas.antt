-- The plane as it is seen, and what it follows.
use Rattle.std.proofs.Common.{◌≡◌, None, ap, sym, ◌∙◌}
use Rattle.std.specs.FinSet as set
use Rattle.kern_model.specs.ObjectOrder.{Objects}
use Rattle.kern_calls.proofs.CountLemmas.{set_of_items}
use Rattle.net_rules.specs.declared.inputs.Inputs.{Inputs}
use Rattle.net_rules.specs.declared.event.Event.{Event}
use Rattle.net_rules.specs.Moment.{Moment}
use Rattle.net_rules.specs.Refusal.{refusal}
use Rattle.net_rebuild.specs.SettlingState.{held_of}
use Rattle.net_rebuild.specs.Follower.{Follower}
use Rattle.net_rebuild.specs.InStep.{inputs_of, LooksAs}
use Rattle.net_plane.specs.Network.{Network, moment_of}
use Rattle.net_plane.specs.Seen.{network_of}

abbrev pub moment_at : Inputs → Objects → Moment
moment_at inputs held = record { inputs = inputs; held = held }

-- the moment of what is followed is that of the plane
pub moment_seen : (f : Follower) → ◌≡◌ {A = Moment} (moment_of (network_of f)) (moment_at (inputs_of f) (held_of f.settling))
moment_seen f = ap (moment_at (inputs_of f)) (set_of_items (held_of f.settling))

-- so the one refuses what the other does
pub refusal_seen : (f : Follower) (event : Event) → refusal (moment_of (network_of f)) event ≡ refusal (moment_at (inputs_of f) (held_of f.settling)) event
refusal_seen f event = ap (λ (m : Moment). refusal m event) (moment_seen f)

-- a plane, by what it follows
module _ (network : Network) (f : Follower) (view : ◌≡◌ {A = Network} (network_of f) network) where
  pub refusal_is : (event : Event) → refusal (moment_at (inputs_of f) (held_of f.settling)) event ≡ refusal (moment_of network) event
  refusal_is event = sym (refusal_seen f event) ∙ ap (λ (n : Network). refusal (moment_of n) event) view

  pub free_below : (event : Event) → refusal (moment_of network) event ≡ None → refusal (moment_at (inputs_of f) (held_of f.settling)) event ≡ None
  free_below event free = refusal_is event ∙ free

  -- what looks the same is seen the same
  pub same_seen : (now : Follower) → LooksAs f now → ◌≡◌ {A = Network} (network_of now) network
  same_seen now looks =
      let same : ◌≡◌ {A = Network} (network_of now) (network_of f) = λ i. record { inputs = looks.inputs i; held = set.items (looks.held i); notices = looks.told i; loads = looks.loads i } in
      same ∙ view
