use Rattle.std.proofs.Common.{arith, ℕ, ◌≡◌, ◌+◌, ◌<◌, ◌∷◌, ◌++◌, [], List, length, take, refl, ap, sym, subst, ◌∙◌, Contains, inl, inr}
use Rattle.std.specs.Prelude.{◌||◌, ⊤, false, Err}
use Rattle.std.specs.Ordering.{nat_cmp, eq_by_cmp}
use Rattle.std.specs.Cmp.Lexicographic.{slice_cmp}
use Rattle.std.proofs.lemmas.List.Elements.{Contains-append_left, Contains-push}
use Rattle.kern_model.specs.Kernel.{is_present, after_event}
use Rattle.kern_model.specs.ObjectOrder.{set_of}
use Rattle.net_rules.specs.declared.event.Event.TheVariants as event
use Rattle.net_rules.specs.Notices.{notices}
use Rattle.net_rules.specs.Refusal.{refusal}
use Rattle.net_rules.specs.Moment.{Moment, devices_of}
use Rattle.net_plane.specs.declared.net_error.NetError.{NetError}
use Rattle.net_plane.specs.Network.{Network, moment_of}
use Rattle.net_plane.specs.Taken.{FailsAt, TellsOnce}
use Rattle.net_start.specs.Inputs.{comes, input_with, inputs_with, present_of}
use Rattle.net_start.specs.Devices.{Came}
use Rattle.net_start.proofs.RecordLemmas.{records_none}
use Rattle.net_start.proofs.DeviceLemmas.{none_present, not_before, present_after, same_name, either, came_none, came_next, came_in_vain, came_so_far, present_next, present_in_vain, one_more, asked_next, asked_in_vain, false_of_not}
use Rattle.net_start.proofs.InputLemmas.{nothing_told, inputs_more, devices_come, none_at_first, nothing_held, same_moment, failed_rose, not_asked}
use Rattle.net_start.proofs.devices.add_devices.Goals as goal

pub loop-name-init : goal.loop-name-init
loop-name-init g c =
    let bare = c.requires.of.devices ∙ (ap devices_of c.requires.new.inputs ∙ none_at_first) in
    record {
      inputs = c.requires.new.inputs;
      held = ap set_of c.requires.new.held ∙ nothing_held;
      told = c.requires.new.notices;
      of = c.requires.of;
      calls = refl;
      later = omega arith;
      only = λ q h. cc (h, ap (λ d. is_present d q) bare ∙ none_present q);
      asked = records_none (g.K.Kernel.asked c.args.kernel.now);
      came = came_none (g.K.Kernel.devices c.args.kernel.now) (g.K.Kernel.faults c.args.kernel.now) bare;
    }

pub device-requires-clause-told : goal.device-requires-clause-told
device-requires-clause-told g c = c.loop-name.invariant.told

pub device-requires-clause-of : goal.device-requires-clause-of
device-requires-clause-of g c = c.loop-name.invariant.of

pub loop-name-preserved-in_default : goal.loop-name-preserved-in_default
loop-name-preserved-in_default g c =
    let names = c.args.names.now in
    let index = c.loop-name.name-index in
    let name = c.name-item.result in
    let so_far = c.loop-name.invariant in
    let inputs = c.loop-name.net.inputs in
    let before = g.K.Kernel.devices c.loop-name.kernel in
    let after = g.K.Kernel.devices c.device.new.kernel in
    let taken = c.in_default.ensures.ok in
    let within : index < length names = omega arith in
    let step : c.device.new.self.inputs ≡ input_with inputs name =
    ap (λ (m : Moment). m.inputs) taken.moment in
    let did : after ≡ after_event before (comes name) =
    c.device.ensures.of.devices ∙ (ap devices_of step ∙ (devices_come inputs (comes name)
    ∙ ap (λ d. after_event d (comes name)) (sym so_far.of.devices))) in
    let more : take (index + 1) names ≡ take index names ++ name ∷ [] =
    one_more names index name c.requires.distinct within (sym c.name-item.is) in
    let next = present_next names index name c.requires.distinct within (sym c.name-item.is)
    before after did in
    let now_present : (q : List ℕ)
    → is_present after q ≡ (eq_by_cmp (slice_cmp nat_cmp) q name || is_present before q) =
    λ q. ap (λ d. is_present d q) did ∙ present_after before name q _ in
    record {
      inputs = step ∙ (ap (λ x. input_with x name) so_far.inputs
          ∙ (sym (inputs_more (present_of before (take index names)) name)
          ∙ ap inputs_with (sym next)));
      held = ap (λ (m : Moment). m.held) taken.moment ∙ so_far.held;
      told = taken.notices ∙ (ap (λ x. notices x (event.Device (comes name))) so_far.inputs
          ∙ nothing_told (present_of before (take index names)) (comes name));
      of = c.device.ensures.of;
      calls = c.device.ensures.calls ∙ so_far.calls;
      later = let first = so_far.later in let then = c.device.ensures.later in omega arith;
      only = λ q h. elim
          (either (eq_by_cmp (slice_cmp nat_cmp) q name) (is_present before q) (sym (now_present q) ∙ h))
          as (λ _. Contains (take (index + 1) names) q) [
            | inl same ↦ subst (λ xs. Contains xs q) (sym more)
                (subst (Contains (take index names ++ name ∷ [])) (sym (same_name q name same))
                (Contains-push (take index names) name))
            | inr there ↦ subst (λ xs. Contains xs q) (sym more)
                (Contains-append_left (take index names) (name ∷ []) q (so_far.only q there))
          ];
      asked = asked_next names index name c.requires.distinct within (sym c.name-item.is)
          before after (g.K.Kernel.asked c.args.kernel.now) (g.K.Kernel.asked c.loop-name.kernel)
          (g.K.Kernel.asked c.device.new.kernel) did so_far.asked c.in_default.ensures.asked;
      came = came_next names index name c.requires.distinct within (sym c.name-item.is)
          before after (g.K.Kernel.faults c.args.kernel.now) (g.K.Kernel.faults c.loop-name.kernel)
          (g.K.Kernel.faults c.device.new.kernel) did c.device.ensures.later so_far.came;
    }

pub loop-name-preserved : goal.loop-name-preserved
loop-name-preserved g c =
    let names = c.args.names.now in
    let index = c.loop-name.name-index in
    let name = c.name-item.result in
    let so_far = c.loop-name.invariant in
    let before = g.K.Kernel.devices c.loop-name.kernel in
    let after = g.K.Kernel.devices c.device.new.kernel in
    let within : index < length names = omega arith in
    let same = c.in-Err.ensures.err in
    let did : after ≡ before =
    c.device.ensures.of.devices ∙ (ap (λ (n : Network). devices_of n.inputs) same
    ∙ sym so_far.of.devices) in
    let more : take (index + 1) names ≡ take index names ++ name ∷ [] =
    one_more names index name c.requires.distinct within (sym c.name-item.is) in
    let new : Contains (take index names) name → ⊥ =
    not_before names index name c.requires.distinct within (sym c.name-item.is) in
    let absent : is_present before name ≡ false =
    false_of_not (is_present before name) (λ h. new (so_far.only name h)) in
    let rose = failed_rose (refusal (moment_of c.loop-name.net) (event.Device (comes name)))
    (g.K.Kernel.faults c.loop-name.kernel) (g.K.Kernel.faults c.device.new.kernel)
    (subst (λ (e : NetError). FailsAt {X = ⊤} (moment_of c.loop-name.net) (comes name)
    (g.K.Kernel.faults c.loop-name.kernel) (g.K.Kernel.faults c.device.new.kernel) (Err e))
    c.in-KernelFailed.is c.in-Err.ensures.refused) in
    record {
      inputs = ap (λ (n : Network). n.inputs) same ∙ (so_far.inputs ∙ ap inputs_with
          (sym (present_in_vain names index name c.requires.distinct within (sym c.name-item.is)
          before after did absent)));
      held = ap (λ (n : Network). set_of n.held) same ∙ so_far.held;
      told = ap (λ (n : Network). n.notices) same ∙ so_far.told;
      of = c.device.ensures.of;
      calls = c.device.ensures.calls ∙ so_far.calls;
      later = let first = so_far.later in let then = c.device.ensures.later in omega arith;
      only = λ q h. subst (λ xs. Contains xs q) (sym more)
          (Contains-append_left (take index names) (name ∷ []) q
          (so_far.only q (ap (λ d. is_present d q) (sym did) ∙ h)));
      asked = asked_in_vain names index name c.requires.distinct within (sym c.name-item.is)
          before after (g.K.Kernel.asked c.args.kernel.now) (g.K.Kernel.asked c.loop-name.kernel)
          (g.K.Kernel.asked c.device.new.kernel) did absent so_far.asked
          (subst (λ (e : NetError). TellsOnce {X = ⊤} (comes name)
          (g.K.Kernel.asked c.loop-name.kernel) (g.K.Kernel.asked c.device.new.kernel) (Err e))
          c.in-KernelFailed.is c.in-Err.ensures.asked);
      came = came_in_vain names index name c.requires.distinct within (sym c.name-item.is)
          before after (g.K.Kernel.faults c.args.kernel.now) (g.K.Kernel.faults c.loop-name.kernel)
          (g.K.Kernel.faults c.device.new.kernel) did absent rose so_far.came;
    }

pub returns-in_default-error : goal.returns-in_default-error
returns-in_default-error g c =
    let names = c.args.names.now in
    let index = c.loop-name.name-index in
    let name = c.name-item.result in
    let so_far = c.loop-name.invariant in
    let before = g.K.Kernel.devices c.loop-name.kernel in
    let after = g.K.Kernel.devices c.device.new.kernel in
    let within : index < length names = omega arith in
    let same = c.in-Err.ensures.err in
    let did : after ≡ before =
    c.device.ensures.of.devices ∙ (ap (λ (n : Network). devices_of n.inputs) same
    ∙ sym so_far.of.devices) in
    record {
      moment = tt;
      told = ap (λ (n : Network). n.notices) same ∙ so_far.told;
      came = tt;
      asked = tt;
      memory = came_so_far names index name c.requires.distinct within (sym c.name-item.is)
          before after (g.K.Kernel.asked c.args.kernel.now) (g.K.Kernel.asked c.loop-name.kernel)
          (g.K.Kernel.asked c.device.new.kernel) (g.K.Kernel.faults c.args.kernel.now)
          (g.K.Kernel.faults c.loop-name.kernel) (g.K.Kernel.faults c.device.new.kernel) did
          (not_asked (comes name) (g.K.Kernel.asked c.loop-name.kernel)
          (g.K.Kernel.asked c.device.new.kernel) c.in-Err.error c.in_default-error.not-KernelFailed
          c.in-Err.ensures.asked)
          c.device.ensures.later so_far.came so_far.asked;
      of = c.device.ensures.of;
      objects = c.device.ensures.of.objects
          ∙ (ap (λ (n : Network). set_of n.held) same ∙ so_far.held);
      calls = c.device.ensures.calls ∙ so_far.calls;
      later = let first = so_far.later in let then = c.device.ensures.later in omega arith;
    }
