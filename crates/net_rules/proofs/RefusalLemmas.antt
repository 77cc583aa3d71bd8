-- Events that are not refused may come.
use Rattle.std.proofs.Common.{ℕ, ◌≡◌, inl, inr, List, Bool, true, false, Option, Some, None, refl, ap, sym, ◌∙◌}
use Rattle.std.specs.Prelude.{not, ◌||◌, is_some, is_none}
use Rattle.std.specs.FinSet as set
use Rattle.std.specs.Option.{option_map_or}
use Rattle.kern_model.specs.declared.object.Device.{Device}
use Rattle.kern_model.specs.declared.object.DevEvent.{DevEvent}
use Rattle.kern_model.specs.declared.object.DevEvent.TheVariants as device
use Rattle.kern_model.specs.declared.object.Object.TheVariants as object
use Rattle.kern_model.specs.AdmissionTest.{is_link_of}
use Rattle.kern_model.specs.Kernel.{Exists, is_present, MayHappen}
use Rattle.kern_model.proofs.SetLemmas.{item_of_set}
use Rattle.kern_model.proofs.TestLemmas.{of_any, of_left, of_right, same_bytes}
use Rattle.net_rows.specs.declared.rows.Conf.{Conf}
use Rattle.net_rules.specs.declared.event.Event.{Event}
use Rattle.net_rules.specs.declared.event.Event.TheVariants as event
use Rattle.net_rules.specs.declared.refusal.Refusal.{Refusal}
use Rattle.net_rules.specs.declared.refusal.Refusal.TheVariants as refused
use Rattle.net_rules.specs.Rows.{is_plain}
use Rattle.net_rules.specs.Sound.{IsSound}
use Rattle.net_rules.specs.Inputs.{device_in}
use Rattle.net_rules.specs.Moment.{Moment, devices_of, MayCome, moment_after, IsHistory}
use Rattle.net_rules.specs.Refusal.{or_else, refused_if, is_held_link, is_known, refusal, moved}
use Rattle.net_rules.proofs.MomentLemmas.{device_of_map}

-- a cause that does not hold
first_not : (b : Bool) (why : Refusal) (rest : Option Refusal) → or_else (refused_if b why) rest ≡ None → b ≡ true → ⊥
first_not true why rest none is = cc none
first_not false why rest none is = cc is

there_is : (o : Option Device) (why : Refusal) → refused_if (is_none o) why ≡ None → is_some o ≡ true
there_is None why none = cc none
there_is (Some d) why none = refl

module _ (moment : Moment) where
  present_same : (name : List ℕ) → is_present (devices_of moment.inputs) name ≡ is_some (device_in moment.inputs.devices name)
  present_same name = sym (ap is_some (device_of_map moment.inputs.devices name))

  pub known : (name : List ℕ) → Exists (devices_of moment.inputs) moment.held name → is_known moment name ≡ true
  known name exists =
      let there = is_some (device_in moment.inputs.devices name) in
      let link = is_held_link moment.held name in
      let made = not (is_plain moment.inputs.conf name) in
      elim exists as (λ _. is_known moment name ≡ true) [
        | inl present ↦ of_left there (made || link) (sym (present_same name) ∙ present)
        | inr held ↦ of_right there (made || link) (of_right made link
            (of_any (is_link_of name) (set.items moment.held) (object.Link name held.0) (item_of_set moment.held (object.Link name held.0) held.1) (same_bytes name name refl)))
      ]

  pub device_may : (what : DevEvent) → refusal moment (event.Device what) ≡ None → MayHappen (devices_of moment.inputs) moment.held what
  device_may (device.Add name carrier mtu mac) none = λ exists. first_not (is_known moment name) refused.Known _ none (known name exists)
  device_may (device.Remove name) none = present_same name ∙ there_is (device_in moment.inputs.devices name) refused.NoDevice none
  device_may (device.Carrier name on) none = present_same name ∙ there_is (device_in moment.inputs.devices name) refused.NoDevice none

  may_come : (what : Event) → ((conf : Conf) → what ≡ event.Load conf → IsSound conf) → refusal moment what ≡ None → MayCome moment what
  may_come (event.Load conf) sound none = sound conf refl
  may_come (event.Device what) sound none = device_may what none
  may_come (event.Operator interface up) sound none = tt
  may_come (event.Answer interface number answer) sound none = tt
  may_come (event.Radio radio number ports) sound none = tt

moved_by : (moment : Moment) (what : Event) → IsHistory moment → (why : Option Refusal) → (why ≡ None → MayCome moment what) → IsHistory (option_map_or (λ refusal. moment) why (moment_after moment what))
moved_by moment what history None may = IsHistory.came moment what history (may refl)
moved_by moment what history (Some refusal) may = history

pub moved_history : (moment : Moment) (what : Event) → IsHistory moment → ((conf : Conf) → what ≡ event.Load conf → IsSound conf) → IsHistory (moved moment what)
moved_history moment what history sound = moved_by moment what history (refusal moment what) (may_come moment what sound)
