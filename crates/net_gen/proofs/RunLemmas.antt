-- How a run ends.
use Rattle.std.proofs.Common.{arith, ℕ, zero, suc, ◌≡◌, ◌≤◌, ◌<◌, ◌+◌, List, [], ◌∷◌, ◌++◌, Option, Some, None, inl, inr, false, length, take, drop, get_or, refl, ap, sym, subst, ◌∙◌, append-nil, append_assoc}
use Rattle.std.specs.Prelude.{Result, Ok, Err, IfOk}
use Rattle.std.specs.FinSet as set
use Rattle.std.specs.FinMap as finite_map
use Rattle.std.proofs.lemmas.List.{take_more, take-append-drop}
use Rattle.plane_words.specs.Causes.{Rose}
use Rattle.plane_words.specs.Growth.{Grows, GrowsByFront}
use Rattle.kern_model.specs.Kernel.{Records}
use Rattle.kern_model.specs.ObjectOrder.{Objects, set_of}
use Rattle.kern_calls.specs.Due.{due_count}
use Rattle.kern_calls.proofs.KeptLemmas.{none_due_if_same}
use Rattle.uci_tree.specs.declared.package.Package.{Package}
use Rattle.net_conf.specs.Conf.{conf}
use Rattle.net_conf.specs.Limits.{passed_limit}
use Rattle.net_rules.specs.Inputs.{no_inputs}
use Rattle.net_rules.specs.Moment.{Moment, want_of, devices_of}
use Rattle.net_settle.specs.Outside.{Outside}
use Rattle.net_plane.specs.Network.{Network, IsNew, HasSameKernel, moment_of}
use Rattle.step_net.specs.declared.taken.Taken.{Taken}
use Rattle.step_net.specs.Taken.{IsNoted}
use Rattle.step_net.specs.NetLine.{load_within, load_line}
use Rattle.step_net.specs.Acted.{acted}
use Rattle.step_net.specs.Effects.{Effects, Leaves}
use Rattle.step_net.specs.Moved.{Luck}
use Rattle.step_net.specs.Finished.{HoldsOrFailed}
use Rattle.step_net.proofs.GrowthLemmas.{grows_more}
use Rattle.net_gen.specs.declared.gen_error.GenError.{GenError}
use Rattle.net_gen.specs.declared.gen_error.GenError.TheVariants as error
use Rattle.net_gen.specs.declared.packages.Standing.TheVariants as standing
use Rattle.net_gen.specs.declared.steps.Step.{Step}
use Rattle.net_gen.specs.Packages.{no_package, network}
use Rattle.net_gen.specs.Steps.{steps, after_step, after_steps, steps_in, failures_in, loaded, walked, objects_line, word_of, number_line}
use Rattle.net_gen.specs.StepEnds.{IsTaken, IsHalted}
use Rattle.net_gen.specs.Run.{Took, IsThrough, with_text, IsCutAtStep, IsHaltedAtStep, StepsEnd, fewer, IsFinished, IsLeftDue, IsCutAtEnd, IsCutShort, LackedMemory, RunEnds, HeldEnds}
use Rattle.net_gen.proofs.CountLemmas.{mute}
use Rattle.net_gen.proofs.StepLemmas.{steps_more, none_took, took_more, cut_behind, it_number, it_next, halted_seen}

-- the first steps were taken; behind one of them the kernel holds what is wanted, or it failed
pub record RanSoFar (rows : Package) (net now : Moment) (before after : Outside) (index : ℕ)
    : Type 0 where
  pub taken : List (Step × Luck)
  pub are : steps_in taken ≡ take index steps
  pub took : Took rows net now taken before after
  pub holds : 0 < index
      → HoldsOrFailed after.objects (want_of now.inputs) before.kernel_faults after.kernel_faults

pub none_ran : (rows : Package) (net : Moment) (now : Outside) → RanSoFar rows net net now now 0
none_ran rows net now = record {
  taken = [];
  are = refl;
  took = none_took rows net now;
  holds = λ some. absurd (omega arith);
}

-- an item between those before it and those behind it
split_at : {X : Type 0} (xs : List X) (index : ℕ) (x : X) → index < length xs
    → get_or xs index x ≡ x → xs ≡ take index xs ++ x ∷ drop 1 (drop index xs)
split_at [] index x inside is = absurd (omega (arith, inside))
split_at (y ∷ ys) zero x inside is = ap (λ z. z ∷ ys) is
split_at (y ∷ ys) (suc index) x inside is =
    ap (λ zs. y ∷ zs) (split_at ys index x (omega (arith, inside)) is)

-- inside a list the item of a place is one, whatever stands for an item outside
pub same_item : {X : Type 0} (xs : List X) (index : ℕ) (d e : X) → index < length xs
    → get_or xs index d ≡ get_or xs index e
same_item [] index d e inside = absurd (omega (arith, inside))
same_item (y ∷ ys) zero d e inside = refl
same_item (y ∷ ys) (suc index) d e inside = same_item ys index d e (omega (arith, inside))

-- the next step
module _ (rows : Package) (net mid now : Moment) (index : ℕ) (which : Step) (first b a : Outside)
    (ran : RanSoFar rows net mid first b index) (inside : index < length steps)
    (is : get_or steps index which ≡ which) where
  ran_parts : steps ≡ steps_in ran.taken ++ which ∷ drop 1 (drop index steps)
  ran_parts = split_at steps index which inside is
      ∙ ap (λ front. front ++ which ∷ drop 1 (drop index steps)) (sym ran.are)

  pub halted_at : a.out ≡ b.out → a.out_faults ≡ b.out_faults
      → IsHalted rows which mid now (mute b) (mute a) → IsHaltedAtStep rows net now first a
  halted_at out faults h = record {
    taken = ran.taken;
    which = which;
    others = drop 1 (drop index steps);
    parts = ran_parts;
    between = mid;
    middle = b;
    took = ran.took;
    halted = halted_seen rows which mid now b a out faults h;
  }

  module _ (count : ℕ) (t : IsTaken rows which mid now count (mute b) (mute a))
      (later : b.out_faults ≤ a.out_faults) where
    abbrev line : List ℕ
    line = number_line (word_of which) count

    line_is : line ≡ (after_step rows (after_steps rows net ran.taken).net which t.luck).effects.text
    line_is = ap (number_line (word_of which))
        (it_number rows net mid now ran.taken which count first b a ran.took t)

    pub ran_more : Grows b.out a.out line
        → HoldsOrFailed a.objects (want_of now.inputs) b.kernel_faults a.kernel_faults
        → RanSoFar rows net now first a (index + 1)
    ran_more written holds = record {
      taken = ran.taken ++ (which, t.luck) ∷ [];
      are = steps_more ran.taken (which, t.luck) ∙ ap (λ s. s ++ which ∷ []) ran.are
          ∙ ap (λ x. take index steps ++ x ∷ []) (sym is)
          ∙ sym (take_more steps index which inside);
      took = took_more rows net mid now ran.taken which count first b a ran.took t line line_is
          written later;
      holds = λ some. held_later holds;
    }
      where
        held_later : HoldsOrFailed a.objects (want_of now.inputs) b.kernel_faults a.kernel_faults
            → HoldsOrFailed a.objects (want_of now.inputs) first.kernel_faults a.kernel_faults
        held_later (inl same) = inl same
        held_later (inr rose) = let before = ran.took.left.cause in inr (omega (arith, before, rose))

    pub cut_at : GrowsByFront b.out a.out line → Rose b.out_faults a.out_faults
        → IsCutAtStep rows net now first a
    cut_at written rose = record {
      taken = ran.taken;
      which = which;
      luck = t.luck;
      others = drop 1 (drop index steps);
      parts = ran_parts;
      next = it_next rows net mid now ran.taken which count first b a ran.took t;
      front = written.front;
      back = written.back;
      line = sym line_is ∙ written.parts;
      left = cut_behind rows net mid now ran.taken which count first b a ran.took t written.front
          written.grows later;
      cause = let before = ran.took.left.later in omega (arith, before, rose);
    }

-- all steps were taken
pub ran_through : (rows : Package) (net now : Moment) (before after : Outside) (index : ℕ)
    → RanSoFar rows net now before after index → index ≡ length steps
    → IsThrough rows net now before after
ran_through rows net now before after index ran end = record {
  taken = ran.taken;
  all = ran.are ∙ ap (λ n. take n steps) end;
  took = ran.took;
}

-- ---- the whole run

loaded_within : (net : Moment) (network wireless : Package) (p : Option ℕ) → net.held ≡ set.empty
    → (acted net (load_within network wireless p) false).net.held ≡ set.empty
loaded_within net network wireless None none = none
loaded_within net network wireless (Some number) none = none

-- nothing is held in front of all steps
pub nothing_held : (count : ℕ) → (loaded count).held ≡ set.empty
nothing_held count =
    loaded_within (record { inputs = no_inputs; held = set.empty }) (network standing.All count)
    no_package (passed_limit (conf (network standing.All count) no_package)) refl

-- the plane behind its first load
pub first_load : (count : ℕ) (new now : Network) (rows nothing : Package) (told : Taken)
    → IsNew new → rows ≡ network standing.All count → nothing ≡ no_package
    → IsNoted (acted (moment_of new) (load_line rows nothing) false) now told
    → moment_of now ≡ loaded count
first_load count new now rows nothing told is_new is none acts =
    let start : moment_of new ≡ record { inputs = no_inputs; held = set.empty } =
    (λ i. record { inputs = is_new.inputs i; held = ap set_of is_new.held i }) in
    acts.net ∙ ap (λ m. (acted m (load_line rows nothing) false).net) start
    ∙ ap (λ r. (acted (record { inputs = no_inputs; held = set.empty }) (load_line r nothing) false).net) is
    ∙ ap (λ n. (acted (record { inputs = no_inputs; held = set.empty })
    (load_line (network standing.All count) n) false).net) none

pub still_bare : (new now : Network) → IsNew new → HasSameKernel new now
    → (devices_of now.inputs ≡ finite_map.empty) × (set_of now.held ≡ set.empty)
still_bare new now is_new same =
    (same.devices ∙ ap devices_of is_new.inputs, ap set_of (same.held ∙ is_new.held))

-- memory was lacking in front of all steps
pub lacked_at_first : (count : ℕ) (now : Outside) → now.objects ≡ set.empty
    → LackedMemory count now now
lacked_at_first count now bare =
    LackedMemory.between (loaded count) [] steps refl
    (none_took (fewer count) (loaded count) now) (bare ∙ sym (nothing_held count))

module _ (count : ℕ) (rows : Package) (net now : Moment) (before mid after : Outside)
    (is : rows ≡ fewer count) (start : net ≡ loaded count) where
  -- the run stopped in a step
  pub run_stopped : (X Y : Type 0) (e : GenError) → mid.objects ≡ now.held
      → StepsEnd {X = X} rows net now before mid (Err e) → RunEnds {X = Y} count before mid (Err e)
  run_stopped X Y error.WriteFailed held s =
      IsCutShort.at_step now
      (subst (λ r. IsCutAtStep r (loaded count) now before mid) is
      (subst (λ n. IsCutAtStep rows n now before mid) start s)) held
  run_stopped X Y error.Memory held s =
      LackedMemory.within now
      (subst (λ r. IsHaltedAtStep r (loaded count) now before mid) is
      (subst (λ n. IsHaltedAtStep rows n now before mid) start s)) held
  run_stopped X Y (error.KernelFailed due) held s = absurd s

  -- all steps were taken, and then the last line ended
  module _ (s : IsThrough rows net now before mid) (same : after.objects ≡ now.held)
      (present : after.devices ≡ devices_of now.inputs)
      (asked : after.asked ≡ mid.asked) (calls : after.calls ≡ mid.calls)
      (faults : after.kernel_faults ≡ mid.kernel_faults) (later : mid.out_faults ≤ after.out_faults) where
    abbrev end : Moment
    end = (walked count s.taken).net

    took_all : Took (fewer count) (loaded count) now s.taken before mid
    took_all = subst (λ r. Took r (loaded count) now s.taken before mid) is
        (subst (λ n. Took rows n now s.taken before mid) start s.took)

    text_behind : (text : List ℕ) → Grows mid.out after.out text
        → Leaves (with_text (walked count s.taken).effects
        ((walked count s.taken).effects.text ++ text)) (failures_in s.taken) before after
    text_behind text written =
        let l = took_all.left in
        record {
          asked = subst (λ x. Records before.asked x (walked count s.taken).effects.asked) (sym asked) l.asked;
          logged = subst (λ x. Grows before.calls x (walked count s.taken).effects.calls) (sym calls) l.logged;
          written = grows_more before.out mid.out after.out (walked count s.taken).effects.text text
              l.written written;
          cause = let c = l.cause in omega (arith, c, faults);
          later = let c = l.later in omega (arith, c, later);
        }

    finished : (due : ℕ) → Grows mid.out after.out (objects_line now)
        → due_count now.held (want_of now.inputs) ≡ due → IsFinished count due before after
    finished due written number = record {
      taken = s.taken;
      all = s.all;
      left = text_behind (objects_line end)
          (subst (λ (m : Moment). Grows mid.out after.out (objects_line m)) took_all.next written);
      objects = same ∙ ap (λ (m : Moment). m.held) took_all.next;
      devices = present ∙ ap (λ (m : Moment). devices_of m.inputs) took_all.next;
      number = ap (λ (m : Moment). due_count m.held (want_of m.inputs)) (sym took_all.next) ∙ number;
    }

    failed_if_due : (due : ℕ) → due_count now.held (want_of now.inputs) ≡ due → 0 < due
        → HoldsOrFailed mid.objects (want_of now.inputs) before.kernel_faults mid.kernel_faults
        → mid.objects ≡ now.held → Rose before.kernel_faults after.kernel_faults
    failed_if_due due number some (inr rose) held = omega (arith, rose, faults)
    failed_if_due due number some (inl holds) held =
        let none = none_due_if_same now.held (want_of now.inputs) (sym held ∙ holds) in
        absurd (omega (arith, number, some, none))

    pub run_ended : {X : Type 0} (result : Result X GenError)
        → HoldsOrFailed mid.objects (want_of now.inputs) before.kernel_faults mid.kernel_faults
        → mid.objects ≡ now.held
        → HeldEnds now mid.out after.out mid.out_faults after.out_faults result
        → RunEnds count before after result
    run_ended (Ok x) holds held h = finished 0 h.0 h.1
    run_ended (Err (error.KernelFailed due)) holds held h = record {
      finished = finished due h.0 h.1;
      some = h.2;
      cause = failed_if_due due h.1 h.2 holds held;
    }
    run_ended (Err error.WriteFailed) holds held h =
        IsCutShort.at_end (record {
          taken = s.taken;
          all = s.all;
          front = h.0.front;
          back = h.0.back;
          line = ap objects_line (sym took_all.next) ∙ h.0.parts;
          left = text_behind h.0.front h.0.grows;
          objects = same ∙ ap (λ (m : Moment). m.held) took_all.next;
          devices = present ∙ ap (λ (m : Moment). devices_of m.inputs) took_all.next;
          cause = let first = took_all.left.later in let rose = h.1 in omega (arith, first, rose);
        })
    run_ended (Err error.Memory) holds held h =
        LackedMemory.between now s.taken [] (sym s.all ∙ sym (append-nil (steps_in s.taken)))
        (record {
          next = took_all.next;
          left = record {
            asked = subst (λ x. Records before.asked x (walked count s.taken).effects.asked) (sym asked)
                took_all.left.asked;
            logged = subst (λ x. Grows before.calls x (walked count s.taken).effects.calls) (sym calls)
                took_all.left.logged;
            written = subst (λ x. Grows before.out x (walked count s.taken).effects.text) (sym h)
                took_all.left.written;
            cause = let c = took_all.left.cause in omega (arith, c, faults);
            later = let c = took_all.left.later in omega (arith, c, later);
          };
        }) same
