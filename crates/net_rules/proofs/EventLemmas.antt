-- What happens to a device whose name no row reaches.
use Rattle.std.proofs.Common.{arith, ◌≡◌, ◌≤◌, ◌<◌, inl, inr, ℕ, List, [], ◌∷◌, ◌++◌, map, Bool, true, false, cond, Contains, Option, Some, None, refl, ap, sym, subst, ◌∙◌}
use Rattle.std.specs.Prelude.{bytes_eq, filter, not, nat_le, ◌+◌, ◌==◌}
use Rattle.std.specs.List.{list_any}
use Rattle.std.specs.Ordering.{nat_cmp, eq_by_cmp}
use Rattle.std.specs.Cmp.Lexicographic.{slice_cmp, nat_list_cmp_total}
use Rattle.std.specs.Option.{option_map_or}
use Rattle.std.specs.FinMap as finite_map
use Rattle.std.proofs.lemmas.Bool.Decides.{Decides-eqb}
use Rattle.plane_words.specs.InOrder.{ordered}
use Rattle.kern_model.specs.declared.object.Device.{Device}
use Rattle.kern_model.specs.declared.object.DevEvent.{DevEvent}
use Rattle.kern_model.specs.declared.object.DevEvent.TheVariants as device
use Rattle.kern_model.specs.Kernel.{Devices, map_of, with_carrier, after_event}
use Rattle.kern_model.proofs.MemberLemmas.{first_or_later, none_in_nil, map_member}
use Rattle.kern_model.proofs.TestLemmas.{at_most, false_of_not, not_true, bytes_same, of_any}
use Rattle.kern_model.proofs.FindLemmas.{name_test}
use Rattle.net_rules.specs.declared.inputs.Inputs.{Inputs}
use Rattle.net_rules.specs.declared.event.Notice.{Notice}
use Rattle.net_rules.specs.declared.event.Notice.TheVariants as notice
use Rattle.net_rules.specs.declared.event.Event.TheVariants as event
use Rattle.net_rules.specs.Sound.{IsSound}
use Rattle.net_rules.specs.Inputs.{device_in, facts_of}
use Rattle.net_rules.specs.Numbers.{AreRising}
use Rattle.net_rules.specs.After.{devices_after, changed, after}
use Rattle.net_rules.specs.Notices.{numbers_of, interface_notice, radio_notice, notices_between, notices}
use Rattle.net_rules.specs.Fresh.{IsReached, AreAsked}
use Rattle.net_rules.specs.Moment.{Moment, want_of, IsHistory}
use Rattle.net_rules.proofs.MomentLemmas.{device_of_map, devices_follow}
use Rattle.net_rules.proofs.OnceLemmas.{none_kept}
use Rattle.net_rules.proofs.AfterLemmas.{idle}
use Rattle.net_rules.proofs.ReachedLemmas.{changed_single, reached_kept}
use Rattle.net_rules.proofs.NumberLemmas.{reached_numbered}
use Rattle.net_rules.proofs.HistoryLemmas.{orderly}
use Rattle.net_rules.specs.Reach.{name_of, is_reached}
use Rattle.net_rules.proofs.KnownLemmas.{not_known}
use Rattle.net_rules.proofs.ApartDeviceLemmas.{needs_same, want_same}

-- the inputs of a history are reached by events
pub history_reached : (moment : Moment) → IsHistory moment → IsReached moment.inputs
history_reached moment IsHistory.nothing = IsReached.nothing
history_reached moment (IsHistory.came before event history comes) = IsReached.behind before.inputs event (history_reached before history)
history_reached moment (IsHistory.settled before made rest history are) = history_reached before history

-- another device stays
unless : {X : Type 0} (b : Bool) (x rest : X) → (b ≡ true → ⊥) → cond b x rest ≡ rest
unless true x rest other = absurd (other refl)
unless false x rest other = refl

module _ (devices : Devices) (name q : List ℕ) (other : q ≡ name → ⊥) where
  other_name : eq_by_cmp (slice_cmp nat_cmp) q name ≡ true → ⊥
  other_name h = other (bytes_same q name (sym (name_test q name) ∙ h))

  get_other : (d : Device) → finite_map.get (finite_map.insert devices name d) q ≡ finite_map.get devices q
  get_other d = finite_map.get-insert nat_list_cmp_total devices name d q ∙ unless (eq_by_cmp (slice_cmp nat_cmp) q name) (Some d) (finite_map.get devices q) other_name

  get_left : finite_map.get (finite_map.remove devices name) q ≡ finite_map.get devices q
  get_left = finite_map.get-remove nat_list_cmp_total devices name q ∙ unless (eq_by_cmp (slice_cmp nat_cmp) q name) None (finite_map.get devices q) other_name

  get_carrier : (on : Bool) (found : Option Device) → finite_map.get (option_map_or (λ device. finite_map.insert devices name (with_carrier on device)) found devices) q ≡ finite_map.get devices q
  get_carrier on None = refl
  get_carrier on (Some d) = get_other (with_carrier on d)

get_after : (devices : Devices) (what : DevEvent) (q : List ℕ) → (q ≡ name_of what → ⊥) → finite_map.get (after_event devices what) q ≡ finite_map.get devices q
get_after devices (device.Add name carrier mtu mac) q other = get_other devices name q other (record { carrier = carrier; mtu = mtu; mac = mac })
get_after devices (device.Remove name) q other = get_left devices name q other
get_after devices (device.Carrier name on) q other = get_carrier devices name q other on (finite_map.get devices name)

device_stays : (es : List (List ℕ × Device)) (what : DevEvent) (q : List ℕ) → (q ≡ name_of what → ⊥) → device_in (devices_after es what) q ≡ device_in es q
device_stays es what q other = device_of_map (devices_after es what) q ∙ ap (λ m. finite_map.get m q) (devices_follow es what) ∙ get_after (map_of es) what q other ∙ sym (device_of_map es q)

-- numbers that were given before
rising_below : (least bound : ℕ) → (ns : List ℕ) → AreRising least bound ns → (n : ℕ) → Contains ns n → n < bound
rising_below least bound [] rising n h = absurd (none_in_nil n h)
rising_below least bound (m ∷ ns) rising n h = elim (first_or_later m ns n h) as (λ _. n < bound) [
  | inl same ↦ subst (λ k. k < bound) same rising.1
  | inr later ↦ rising_below (m + 1) bound ns rising.2 n later
]

none_new : {O : Type 0} (number : O → ℕ) (next least : ℕ) (os : List O) → AreRising least next (map number os) → filter (λ o. nat_le next (number o)) os ≡ []
none_new number next least os rising = none_kept (λ o. nat_le next (number o)) os (λ o member. false_of_not (nat_le next (number o)) (λ h.
    let below = rising_below least next (map number os) rising (number o) (map_member number os o member) in
    let from = at_most next (number o) h in
    absurd (omega arith)))

none_lost : (ns : List ℕ) → filter (λ n. not (list_any (λ m. m == n) ns)) ns ≡ []
none_lost ns = none_kept (λ n. not (list_any (λ m. m == n) ns)) ns (λ n member. false_of_not (not (list_any (λ m. m == n) ns)) (λ h. not_true (list_any (λ m. m == n) ns) h (of_any (λ m. m == n) ns n member ((Decides-eqb n n).1 refl))))

module _ (moment : Moment) (what : DevEvent) (history : IsHistory moment) (apart : is_reached moment.inputs (name_of what) ≡ false) where
  abbrev inputs : Inputs
  inputs = moment.inputs

  abbrev now : Inputs
  now = record moment.inputs { devices = devices_after moment.inputs.devices what }

  sound : IsSound moment.inputs.conf
  sound = (orderly moment history).sound

  reached : IsReached moment.inputs
  reached = history_reached moment history

  asked_now : AreAsked now
  asked_now = record {
    interfaces = λ q. (reached_kept inputs reached).are.interfaces q ∙ sym (needs_same (facts_of inputs) sound (device_in now.devices) (name_of what) (not_known inputs (name_of what) apart) (device_stays inputs.devices what) q);
    radios = (reached_kept inputs reached).are.radios;
  }

  pub inputs_then : after moment.inputs (event.Device what) ≡ record moment.inputs { devices = devices_after moment.inputs.devices what }
  unfolding after
  inputs_then = idle (changed inputs (event.Device what)) (changed_single inputs (event.Device what) (reached_kept inputs reached).single) asked_now.radios asked_now.interfaces

  pub wanted_then : want_of (after moment.inputs (event.Device what)) ≡ want_of moment.inputs
  wanted_then = ap want_of inputs_then ∙ want_same (facts_of inputs) sound (device_in now.devices) (name_of what) (not_known inputs (name_of what) apart) (device_stays inputs.devices what)

  none_told : notices_between inputs now ≡ []
  none_told =
      ap (λ ns. map notice.Dropped (ordered nat_cmp ns) ++ (map (interface_notice inputs.conf) (filter (λ o. nat_le inputs.next o.number) inputs.interfaces)
      ++ map (radio_notice inputs.conf) (filter (λ o. nat_le inputs.next o.number) inputs.radios))) (none_lost (numbers_of inputs))
      ∙ ap (λ os. map (interface_notice inputs.conf) os ++ map (radio_notice inputs.conf) (filter (λ o. nat_le inputs.next o.number) inputs.radios))
      (none_new (λ o. o.number) inputs.next 1 inputs.interfaces (reached_numbered inputs reached).interfaces)
      ∙ ap (λ os. map (radio_notice inputs.conf) os) (none_new (λ o. o.number) inputs.next 1 inputs.radios (reached_numbered inputs reached).radios)

  pub told_then : notices moment.inputs (event.Device what) ≡ []
  told_then = ap (notices_between inputs) inputs_then ∙ none_told
