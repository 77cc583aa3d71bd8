-- The plane after an event.
use Rattle.std.proofs.Common.{◌≡◌, ℕ, ◌+◌, None, refl, ap, sym, ◌∙◌}
use Rattle.std.specs.FinSet as set
use Rattle.kern_model.specs.ObjectOrder.{Objects}
use Rattle.kern_model.specs.Kernel.{map_of}
use Rattle.kern_calls.proofs.CountLemmas.{set_of_items}
use Rattle.net_rules.specs.declared.inputs.Inputs.{Inputs}
use Rattle.net_rules.specs.declared.event.Event.{Event}
use Rattle.net_rules.specs.declared.event.Event.TheVariants as event
use Rattle.net_rules.specs.After.{after}
use Rattle.net_rules.specs.Moment.{Moment, devices_of, held_after, moment_after}
use Rattle.net_rules.specs.Notices.{notices}
use Rattle.net_rules.specs.Refusal.{refusal}
use Rattle.net_rules.proofs.MomentLemmas.{present_follows}
use Rattle.net_rebuild.specs.SettlingState.{held_of}
use Rattle.net_rebuild.specs.Follower.{Follower}
use Rattle.net_rebuild.specs.InStep.{inputs_of, HasFollowed}
use Rattle.net_rebuild.specs.Begun.{HasBegun}
use Rattle.net_plane.specs.Network.{Network, HasSameKernel, moment_of}
use Rattle.net_plane.specs.Seen.{network_of}
use Rattle.net_plane.specs.Taken.{IsAfter, HasSoundRows, IsOfNoDevice}
use Rattle.net_plane.proofs.MomentLemmas.{same_moment}

devices_stay : (inputs : Inputs) (event : Event) → IsOfNoDevice event → devices_of (after inputs event) ≡ devices_of inputs
devices_stay inputs (event.Load conf) other = ap map_of (present_follows inputs (event.Load conf))
devices_stay inputs (event.Device what) other = absurd other
devices_stay inputs (event.Operator interface up) other = ap map_of (present_follows inputs (event.Operator interface up))
devices_stay inputs (event.Answer interface number answer) other = ap map_of (present_follows inputs (event.Answer interface number answer))
devices_stay inputs (event.Radio radio number ports) other = ap map_of (present_follows inputs (event.Radio radio number ports))

held_stays : (held : Objects) (event : Event) → IsOfNoDevice event → held_after held event ≡ held
held_stays held (event.Load conf) other = refl
held_stays held (event.Device what) other = absurd other
held_stays held (event.Operator interface up) other = refl
held_stays held (event.Answer interface number answer) other = refl
held_stays held (event.Radio radio number ports) other = refl

-- a plane, by what it followed before an event and behind it
module _ (network : Network) (event : Event) (before now : Follower) (view : ◌≡◌ {A = Network} (network_of before) network) where
  -- where it was followed
  module _ (come : HasFollowed event before now) where
    followed_moment : ◌≡◌ {A = Moment} (moment_of (network_of now)) (moment_after (moment_of (network_of before)) event)
    followed_moment =
        same_moment come.inputs
        (set_of_items (held_of now.settling) ∙ come.held ∙ ap (λ (h : Objects). held_after h event) (sym (set_of_items (held_of before.settling))))

    pub after_followed : refusal (moment_of network) event ≡ None → HasSoundRows event → IsAfter network event (network_of now)
    after_followed free rows = record {
      free = free;
      rows = rows;
      moment = followed_moment ∙ ap (λ (n : Network). moment_after (moment_of n) event) view;
      notices = come.told ∙ ap (λ (n : Network). notices n.inputs event) view;
    }

    pub kernel_followed : IsOfNoDevice event → HasSameKernel network (network_of now)
    kernel_followed other = record {
      devices = ap devices_of come.inputs ∙ devices_stay (inputs_of before) event other ∙ ap (λ (n : Network). devices_of n.inputs) view;
      held = ap (λ (h : Objects). set.items h) (come.held ∙ held_stays (held_of before.settling) event other) ∙ ap (λ (n : Network). n.held) view;
    }

    pub loads_followed : (network_of now).loads ≡ network.loads
    loads_followed = come.loads ∙ ap (λ (n : Network). n.loads) view

  -- where all began anew with it
  module _ (more : ℕ) (begun : HasBegun event more before now) (other : IsOfNoDevice event) where
    begun_moment : ◌≡◌ {A = Moment} (moment_of (network_of now)) (moment_after (moment_of (network_of before)) event)
    begun_moment =
        same_moment begun.inputs
        (set_of_items (held_of now.settling) ∙ begun.held ∙ sym (held_stays (held_of before.settling) event other)
        ∙ ap (λ (h : Objects). held_after h event) (sym (set_of_items (held_of before.settling))))

    pub after_begun : refusal (moment_of network) event ≡ None → HasSoundRows event → IsAfter network event (network_of now)
    after_begun free rows = record {
      free = free;
      rows = rows;
      moment = begun_moment ∙ ap (λ (n : Network). moment_after (moment_of n) event) view;
      notices = begun.told ∙ ap (λ (n : Network). notices n.inputs event) view;
    }

    pub kernel_begun : HasSameKernel network (network_of now)
    kernel_begun = record {
      devices = ap devices_of begun.inputs ∙ devices_stay (inputs_of before) event other ∙ ap (λ (n : Network). devices_of n.inputs) view;
      held = ap (λ (h : Objects). set.items h) begun.held ∙ ap (λ (n : Network). n.held) view;
    }

    pub loads_begun : (network_of now).loads ≡ network.loads + more
    loads_begun = begun.loads ∙ ap (λ (n : Network). n.loads + more) view

-- a plane that stays has the same kernel
pub kernel_stays : (before now : Network) → now ≡ before → HasSameKernel before now
kernel_stays before now same = record { devices = ap (λ (n : Network). devices_of n.inputs) same; held = ap (λ (n : Network). n.held) same }
