-- A footprint that stays is held all along, and no call names an object of it.
use Rattle.std.proofs.Common.{◌≡◌, inl, inr, ℕ, List, [], ◌∷◌, ◌++◌, true, Option, Some, None, Contains, refl, sym, subst}
use Rattle.std.specs.Prelude.{not}
use Rattle.std.specs.Option.{option_map_or}
use Rattle.std.specs.FinSet as set
use Rattle.std.specs.FinMap as map
use Rattle.std.proofs.lemmas.List.Elements.{Contains-append_cases, Contains-append_left}
use Rattle.kern_model.specs.declared.object.Object.{Object}
use Rattle.kern_model.specs.declared.object.Object.TheVariants as object
use Rattle.kern_model.specs.declared.object.Call.{Call}
use Rattle.kern_model.specs.declared.object.Call.TheVariants.{Put, Take}
use Rattle.kern_model.specs.ObjectOrder.{Objects, Has}
use Rattle.kern_model.specs.Kernel.{Devices, map_of, object_of, replaces, after_call}
use Rattle.kern_model.specs.Allowed.{exclude, AreAllowed}
use Rattle.kern_model.specs.CallOrder.{AreCalls, after_calls}
use Rattle.kern_model.proofs.MemberLemmas.{here, there, none_in_nil}
use Rattle.kern_model.proofs.TestLemmas.{of_not}
use Rattle.kern_model.proofs.SetLemmas.{has_before, has_without, has_retained, none_in_empty}
use Rattle.kern_model.proofs.TouchLemmas.{put_wanted}
use Rattle.kern_model.proofs.LeadLemmas.{admitted}
use Rattle.kern_model.proofs.KeepLemmas.{all_keep}
use Rattle.kern_model.proofs.EventLemmas.{events_keep}
use Rattle.kern_calls.proofs.KeptLemmas.{no_call, part_is_off, front_admitted}
use Rattle.net_rows.specs.declared.rows.InterfaceRow.{InterfaceRow}
use Rattle.net_rules.specs.declared.inputs.Inputs.{Inputs}
use Rattle.net_rules.specs.declared.event.Event.{Event}
use Rattle.net_rules.specs.declared.event.Event.TheVariants as event
use Rattle.net_rules.specs.Facts.{Facts}
use Rattle.net_rules.specs.Rows.{interface_named}
use Rattle.net_rules.specs.Sound.{IsSound}
use Rattle.net_rules.specs.Inputs.{facts_of}
use Rattle.net_rules.specs.Footprint.{footprint}
use Rattle.net_rules.specs.After.{after}
use Rattle.net_rules.specs.Moment.{devices_of, want_of, Moment, held_after, moment_after, MayCome, footprint_named, AreWithin, LeavesHeld, IsStretch}
use Rattle.net_rules.proofs.AllowedLemmas.{allowed}
use Rattle.net_rules.proofs.FootprintLemmas.{of_footprint, whole_part}
use Rattle.net_rules.proofs.MomentLemmas.{device_of_map, devices_follow, conf_after, conf_follows, present_after, present_follows}

pub inputs_allowed : (inputs : Inputs) → IsSound inputs.conf → AreAllowed (devices_of inputs) (want_of inputs)
inputs_allowed inputs sound = allowed (facts_of inputs) (devices_of inputs) sound (device_of_map inputs.devices)

pub untouched : (facts : Facts) (devices : Devices) → IsSound facts.conf → ((name : List ℕ) → facts.device name ≡ map.get devices name) → (row : InterfaceRow) (held : Objects) → AreAllowed devices held → AreWithin (footprint facts row) held
    → (wanted : Objects) → AreWithin (footprint facts row) wanted → (others : Devices) (calls : List Call) → AreCalls others held wanted calls → (call : Call) → Contains calls call → Has (footprint facts row) (object_of call) → ⊥
untouched facts devices sound same row held admits has wanted stays others calls are call member h =
    let part = whole_part facts devices sound same row held admits has wanted stays in
    no_call others held wanted call (has (object_of call) h) (stays (object_of call) h) (part_is_off held wanted (footprint facts row) part (object_of call) h) (are.sound call member)

-- by the name of an interface
untouched_by : (inputs : Inputs) (row : Option InterfaceRow) (held wanted : Objects) → IsSound inputs.conf → AreAllowed (devices_of inputs) held → AreWithin (option_map_or (footprint (facts_of inputs)) row set.empty) held
    → AreWithin (option_map_or (footprint (facts_of inputs)) row set.empty) wanted → (others : Devices) (calls : List Call) → AreCalls others held wanted calls → (call : Call) → Contains calls call
    → Has (option_map_or (footprint (facts_of inputs)) row set.empty) (object_of call) → ⊥
untouched_by inputs None held wanted sound admits has stays = λ others calls are call member h. none_in_empty (object_of call) h
untouched_by inputs (Some row) held wanted sound admits has stays = untouched (facts_of inputs) (devices_of inputs) sound (device_of_map inputs.devices) row held admits has wanted stays

wanted_by : (inputs : Inputs) (row : Option InterfaceRow) → AreWithin (option_map_or (footprint (facts_of inputs)) row set.empty) (want_of inputs)
wanted_by inputs None o h = absurd (none_in_empty o h)
wanted_by inputs (Some row) o h = (of_footprint (facts_of inputs) row o h).0

footprint_wanted : (inputs : Inputs) (name : List ℕ) → AreWithin (footprint_named inputs name) (want_of inputs)
footprint_wanted inputs name = wanted_by inputs (interface_named inputs.conf name)

pub untouched_between : (before now : Inputs) (name : List ℕ) (devices : Devices) (calls : List Call) → IsSound before.conf → footprint_named before name ≡ footprint_named now name → AreCalls devices (want_of before) (want_of now) calls
    → (call : Call) → Contains calls call → Has (footprint_named before name) (object_of call) → ⊥
untouched_between before now name devices calls sound same are =
    untouched_by before (interface_named before.conf name) (want_of before) (want_of now) sound (inputs_allowed before sound) (footprint_wanted before name)
    (λ o h. footprint_wanted now name o (subst (λ s. Has s o) same h)) devices calls are

-- what a put replaces, it excludes
replaces_excludes : (o old : Object) → replaces o old ≡ true → exclude o old ≡ true
replaces_excludes (object.Mtu name mtu) (object.Mtu other number) h = h
replaces_excludes (object.Mac name mac) (object.Mac other number) h = h
replaces_excludes o old h = cc h

module _ (some wanted : Objects) (within : AreWithin some wanted) (apart : (a b : Object) → Has wanted a → Has wanted b → exclude a b ≡ true → a ≡ b) where
  call_keeps : (held : Objects) (call : Call) → AreWithin some held → ((o : Object) → call ≡ Put o → Has wanted o) → (Has some (object_of call) → ⊥) → AreWithin some (after_call held call)
  call_keeps held (Put o) among puts not_it x h =
      has_before (set.retain held (λ old. not (replaces o old))) o x (has_retained held (λ old. not (replaces o old)) x (among x h)
      (of_not (replaces o x) (λ taken. not_it (subst (Has some) (sym (apart o x (puts o refl) (within x h) (replaces_excludes o x taken))) h))))
  call_keeps held (Take o mtu mac) among puts not_it x h = has_without held o x (among x h) (λ same. not_it (subst (Has some) same h))

  calls_keep : (held : Objects) (calls : List Call) → AreWithin some held → ((o : Object) → Contains calls (Put o) → Has wanted o) → ((call : Call) → Contains calls call → Has some (object_of call) → ⊥)
      → AreWithin some (after_calls held calls)
  calls_keep held [] among puts not_it = among
  calls_keep held (call ∷ calls) among puts not_it =
      calls_keep (after_call held call) calls (call_keeps held call among (λ o is. puts o (subst (Contains (call ∷ calls)) is (here call calls))) (not_it call (here call calls)))
      (λ o h. puts o (there call calls (Put o) h)) (λ other h. not_it other (there call calls other h))

-- at a moment the interface has that footprint, and it is held; what is held is allowed
record Keeps (name : List ℕ) (some : Objects) (moment : Moment) : Type 0 where
  sound : IsSound moment.inputs.conf
  same : footprint_named moment.inputs name ≡ some
  among : AreWithin some moment.held
  admits : AreAllowed (devices_of moment.inputs) moment.held

-- an event keeps the rows sound, and what is held allowed
sound_as : (moment : Moment) (event : Event) → IsSound moment.inputs.conf → MayCome moment event → IsSound (conf_after moment.inputs event)
sound_as moment (event.Load conf) sound comes = comes
sound_as moment (event.Device what) sound comes = sound
sound_as moment (event.Operator interface up) sound comes = sound
sound_as moment (event.Answer interface number answer) sound comes = sound
sound_as moment (event.Radio radio number ports) sound comes = sound

allowed_as : (moment : Moment) (event : Event) → AreAllowed (devices_of moment.inputs) moment.held → MayCome moment event → AreAllowed (map_of (present_after moment.inputs event)) (held_after moment.held event)
allowed_as moment (event.Load conf) admits comes = admits
allowed_as moment (event.Device what) admits comes = subst (λ d. AreAllowed d (held_after moment.held (event.Device what))) (sym (devices_follow moment.inputs.devices what))
    (events_keep (devices_of moment.inputs) moment.held what admits comes)
allowed_as moment (event.Operator interface up) admits comes = admits
allowed_as moment (event.Answer interface number answer) admits comes = admits
allowed_as moment (event.Radio radio number ports) admits comes = admits

pub sound_after : (moment : Moment) (event : Event) → IsSound moment.inputs.conf → MayCome moment event → IsSound (moment_after moment event).inputs.conf
sound_after moment event sound comes = subst IsSound (sym (conf_follows moment.inputs event)) (sound_as moment event sound comes)

pub allowed_after : (moment : Moment) (event : Event) → AreAllowed (devices_of moment.inputs) moment.held → MayCome moment event → AreAllowed (devices_of (moment_after moment event).inputs) (moment_after moment event).held
allowed_after moment event admits comes = subst (λ es. AreAllowed (map_of es) (held_after moment.held event)) (sym (present_follows moment.inputs event)) (allowed_as moment event admits comes)

module _ (name : List ℕ) (some : Objects) where
  keeps_after : (moment : Moment) (event : Event) → Keeps name some moment → MayCome moment event → footprint_named (after moment.inputs event) name ≡ some → LeavesHeld some moment.held event → Keeps name some (moment_after moment event)
  keeps_after moment event keeps comes same leaves = record {
    sound = sound_after moment event keeps.sound comes;
    same = same;
    among = λ o h. leaves o h (keeps.among o h);
    admits = allowed_after moment event keeps.admits comes;
  }

  -- no call of a settling names an object of the footprint
  settling_names : (moment : Moment) (calls : List Call) → Keeps name some moment → AreCalls (devices_of moment.inputs) moment.held (want_of moment.inputs) calls → (call : Call) → Contains calls call → Has some (object_of call) → ⊥
  settling_names moment calls keeps are call member h =
      let own = λ (o : Object) (of : Has (footprint_named moment.inputs name) o). subst (λ s. Has s o) keeps.same of in
      untouched_by moment.inputs (interface_named moment.inputs.conf name) moment.held (want_of moment.inputs) keeps.sound keeps.admits (λ o of. keeps.among o (own o of))
      (footprint_wanted moment.inputs name) (devices_of moment.inputs) calls are call member (subst (λ s. Has s (object_of call)) (sym keeps.same) h)

  keeps_settled : (moment : Moment) (made rest : List Call) → Keeps name some moment → AreCalls (devices_of moment.inputs) moment.held (want_of moment.inputs) (made ++ rest)
      → Keeps name some (record moment { held = after_calls moment.held made })
  keeps_settled moment made rest keeps are =
      let wanted_allowed = inputs_allowed moment.inputs keeps.sound in
      record {
        sound = keeps.sound;
        same = keeps.same;
        among = calls_keep some (want_of moment.inputs) (λ o h. footprint_wanted moment.inputs name o (subst (λ s. Has s o) (sym keeps.same) h)) wanted_allowed.apart
            moment.held made keeps.among
            (λ o h. put_wanted moment.held (want_of moment.inputs) o (are.sound (Put o) (Contains-append_left made rest (Put o) h)))
            (λ call h. settling_names moment (made ++ rest) keeps are call (Contains-append_left made rest call h));
        admits = all_keep (devices_of moment.inputs) moment.held made keeps.admits
            (front_admitted (devices_of moment.inputs) moment.held made rest (admitted (devices_of moment.inputs) moment.held (want_of moment.inputs) (made ++ rest) keeps.admits wanted_allowed are)).0;
      }

  named_none : (moment : Moment) (calls : List Call) → Keeps name some moment → IsStretch name some moment calls → (call : Call) → Contains calls call → Has some (object_of call) → ⊥
  named_none moment calls keeps (IsStretch.ended m) call member h = none_in_nil call member
  named_none moment calls keeps (IsStretch.came m event cs comes same leaves stretch) call member h = named_none (moment_after m event) cs (keeps_after m event keeps comes same leaves) stretch call member h
  named_none moment calls keeps (IsStretch.settled m made rest more are stretch) call member h =
      elim (Contains-append_cases made more call member) as (λ _. ⊥) [
        | inl now ↦ settling_names m (made ++ rest) keeps are call (Contains-append_left made rest call now) h
        | inr later ↦ named_none (record m { held = after_calls m.held made }) more (keeps_settled m made rest keeps are) stretch call later h
      ]

pub none_named : (moment : Moment) (name : List ℕ) (calls : List Call) → IsSound moment.inputs.conf → moment.held ≡ want_of moment.inputs → IsStretch name (footprint_named moment.inputs name) moment calls → (call : Call)
    → Contains calls call → Has (footprint_named moment.inputs name) (object_of call) → ⊥
none_named moment name calls sound settled stretch =
    named_none name (footprint_named moment.inputs name) moment calls (record {
      sound = sound;
      same = refl;
      among = λ o h. subst (λ s. Has s o) (sym settled) (footprint_wanted moment.inputs name o h);
      admits = subst (AreAllowed (devices_of moment.inputs)) (sym settled) (inputs_allowed moment.inputs sound);
    }) stretch
