-- Steps one after the other.
use Rattle.std.proofs.Common.{arith, ℕ, ◌≡◌, ◌≤◌, ◌+◌, List, [], ◌∷◌, ◌++◌, Option, Some, None, inl, inr, Bool, false, length, take, map, refl, ap, sym, subst, ◌∙◌, append-nil, append_assoc}
use Rattle.std.specs.Prelude.{Result, Ok, Err, is_some}
use Rattle.plane_words.specs.Causes.{Rose, RoseBy}
use Rattle.plane_words.specs.Growth.{Grows, GrowsByFront}
use Rattle.kern_model.specs.declared.kernel.Asked.{Asked}
use Rattle.kern_model.specs.declared.kernel.Kernel.{Ghosts as KernelMembers}
use Rattle.kern_model.specs.Kernel.{Records}
use Rattle.kern_model.specs.ObjectOrder.{set_of}
use Rattle.uci_tree.specs.declared.package.Package.{Package}
use Rattle.net_conf.specs.Conf.{conf}
use Rattle.net_conf.specs.Limits.{passed_limit}
use Rattle.net_rules.specs.Moment.{Moment}
use Rattle.net_settle.specs.Outside.{Outside}
use Rattle.net_settle.specs.Settle.{done_call}
use Rattle.net_plane.specs.Network.{Network, moment_of, IsOf, HasSameKernel}
use Rattle.step_net.specs.declared.taken.Taken.{Taken}
use Rattle.step_net.specs.NetLine.{NetLine, load_within, load_line}
use Rattle.step_net.specs.Acted.{Acted, acted}
use Rattle.step_net.specs.Effects.{Effects, no_effects, joined, Leaves}
use Rattle.step_net.specs.Moved.{Luck, failures_of, moved, due, made, settled, asked_in, once_if}
use Rattle.step_net.specs.Taken as step
use Rattle.step_net.specs.Taken.{Telled, Asks, TakesEvent, TriesEvent, IsLeft}
use Rattle.step_net.proofs.GrowthLemmas.{grows_none, grows_more, grows_to_front, records_none, records_more}
use Rattle.net_gen.specs.declared.steps.Step.{Step}
use Rattle.net_gen.specs.Counted.{IsCounted, IsBrokenOff, CountEnds}
use Rattle.net_gen.specs.Steps.{Walked, line_of, after_step, after_steps, followed, steps_in, failures_in}
use Rattle.net_gen.specs.StepEnds.{IsTaken, IsHalted, done_and, StepEnds}
use Rattle.net_gen.specs.Run.{Took, with_text}
use Rattle.net_gen.proofs.CountLemmas.{mute}

-- where rows are loaded, the kernel is asked nothing
loads_request : (net : Moment) (network wireless : Package) (p : Option ℕ)
    → (acted net (load_within network wireless p) false).asked ≡ []
loads_request net network wireless None = refl
loads_request net network wireless (Some number) = refl

loads_asked : (rows wireless : Package) (old : Network) (kernel : Telled)
    → kernel.asked_now ≡ kernel.asked → kernel.faults_now ≡ kernel.faults
    → Asks (acted (moment_of old) (load_line rows wireless) false).asked false kernel
loads_asked rows wireless old kernel asked faults = record {
  asked = subst (Records kernel.asked kernel.asked_now)
      (sym (loads_request (moment_of old) rows wireless (passed_limit (conf rows wireless))))
      (subst (λ now. Records kernel.asked now []) (sym asked) (records_none kernel.asked));
  cause = omega arith;
}

pub load_tries : {M : Type 0} (rows wireless : Package) (old new : Network) (kernel : Telled)
    → kernel.asked_now ≡ kernel.asked → kernel.faults_now ≡ kernel.faults
    → (result : Result Taken M) → TakesEvent (load_line rows wireless) old new result
    → TriesEvent (load_line rows wireless) old new kernel result
load_tries rows wireless old new kernel asked faults (Ok told) is = record {
  failed = false;
  is = is;
  requests = loads_asked rows wireless old kernel asked faults;
}
load_tries rows wireless old new kernel asked faults (Err lacks) (inl same) =
    IsLeft.in_front same (record {
      asked = subst (λ now. Records kernel.asked now []) (sym asked) (records_none kernel.asked);
      cause = omega arith;
    })
load_tries rows wireless old new kernel asked faults (Err lacks) (inr net) =
    IsLeft.behind false net (loads_asked rows wireless old kernel asked faults)

pub same_kernel_of : {K : Type 0} (kernel : KernelMembers K) (state : K) (old new : Network)
    → IsOf kernel state old → HasSameKernel old new → IsOf kernel state new
same_kernel_of kernel state old new of same = record {
  devices = of.devices ∙ sym same.devices;
  objects = of.objects ∙ ap set_of (sym same.held);
}

rose_both : (m n a b c : ℕ) → RoseBy m a b → RoseBy n b c → RoseBy (m + n) a c
rose_both m n a b c h g = omega (arith, h, g)

-- what a kernel was asked between two moments
abbrev pub between : Outside → Outside → Telled
between f b = record {
  asked = f.asked;
  asked_now = b.asked;
  faults = f.kernel_faults;
  faults_now = b.kernel_faults;
}

-- a step that was done, and then settled
module _ (rows : Package) (which : Step) (old mid : Network) (f b a : Outside)
    (calls : b.calls ≡ f.calls) (told : Taken)
    (t : step.IsTakenAs step.IsNoted (line_of rows which) old mid (between f b) told) where
  abbrev done : Acted
  done = acted (moment_of old) (line_of rows which) t.failed

  pub step_taken : (now : Moment) (count : ℕ)
      → IsCounted (moment_of mid) now count (mute b) (mute a)
      → IsTaken rows which (moment_of old) now count (mute f) (mute a)
  unfolding moved
  step_taken now count c =
      let behind = c.settling.failed_after in
      let at : moment_of mid ≡ done.net = t.is.net in
      record {
        luck = record { events = t.failed ∷ []; failed_after = behind };
        next = c.settling.next ∙ ap (λ m. settled m (made (due m) behind)) at;
        number = c.number ∙ ap (λ m. length (made (due m) behind)) at;
        left = record {
          asked = records_more f.asked b.asked a.asked done.asked (asked_in (due done.net) behind)
              t.requests.asked
              (subst (λ m. Records b.asked a.asked (asked_in (due m) behind)) at c.settling.asked);
          logged = subst (λ x. Grows x a.calls (made (due done.net) behind)) calls
              (subst (λ m. Grows b.calls a.calls (made (due m) behind)) at c.settling.logged);
          written = refl;
          cause = let first = t.requests.cause in let second = c.settling.cause in
              omega (arith, first, second);
          later = omega arith;
        };
      }

  pub step_broken : (now : Moment) → IsBrokenOff (moment_of mid) now (mute b) (mute a)
      → IsHalted rows which (moment_of old) now (mute f) (mute a)
  step_broken now s =
      let at : moment_of mid ≡ done.net = t.is.net in
      IsHalted.behind t.failed s.count
      (s.next ∙ ap (λ m. settled m (take s.count (due m))) at)
      (record {
        asked = records_more f.asked b.asked a.asked done.asked
            (map done_call (take s.count (due done.net))) t.requests.asked
            (subst (λ m. Records b.asked a.asked (map done_call (take s.count (due m)))) at s.asked);
        logged = subst (λ x. Grows x a.calls (take s.count (due done.net))) calls
            (subst (λ m. Grows b.calls a.calls (take s.count (due m))) at s.logged);
        written = refl;
        cause = let first = t.requests.cause in let second = s.later in omega (arith, first, second);
        later = omega arith;
      })

  pub step_ends : {E : Type 0} (now : Moment) (result : Result ℕ E)
      → CountEnds (moment_of mid) now (mute b) (mute a) result
      → StepEnds rows which (moment_of old) now (mute f) (mute a) result
  step_ends now (Ok count) c = step_taken now count c
  step_ends now (Err lacks) s = step_broken now s

-- a step of which memory was lacking to do it or to tell of it
pub step_halted : (rows : Package) (which : Step) (old new : Network) (f b : Outside)
    → b.calls ≡ f.calls → IsLeft (line_of rows which) old new (between f b)
    → IsHalted rows which (moment_of old) (moment_of new) (mute f) (mute b)
step_halted rows which old new f b calls (IsLeft.in_front same requests) =
    IsHalted.in_front (ap moment_of same) (record {
      asked = requests.asked;
      logged = subst (λ x. Grows f.calls x []) (sym calls) (grows_none f.calls);
      written = refl;
      cause = requests.cause;
      later = omega arith;
    })
step_halted rows which old new f b calls (IsLeft.behind failed net requests) =
    IsHalted.behind failed 0 net (record {
      asked = subst (Records f.asked b.asked)
          (sym (append-nil (acted (moment_of old) (line_of rows which) failed).asked)) requests.asked;
      logged = subst (λ x. Grows f.calls x []) (sym calls) (grows_none f.calls);
      written = refl;
      cause = requests.cause;
      later = omega arith;
    })

-- ---- one after the other

joined_none : (a : Effects) → joined a no_effects ≡ a
joined_none a i = record {
  asked = append-nil a.asked i;
  calls = append-nil a.calls i;
  text = append-nil a.text i;
}

joined_assoc : (a b c : Effects) → joined (joined a b) c ≡ joined a (joined b c)
joined_assoc a b c i = record {
  asked = append_assoc a.asked b.asked c.asked i;
  calls = append_assoc a.calls b.calls c.calls i;
  text = append_assoc a.text b.text c.text i;
}

pub after_more : (rows : Package) (net : Moment) (taken : List (Step × Luck)) (p : Step × Luck)
    → after_steps rows net (taken ++ p ∷ [])
    ≡ followed (after_steps rows net taken)
    (after_step rows (after_steps rows net taken).net p.0 p.1)
after_more rows net [] p =
    let first = after_step rows net p.0 p.1 in
    λ i. record { net = first.net; effects = joined_none first.effects i }
after_more rows net (q ∷ taken) p =
    let first = after_step rows net q.0 q.1 in
    let rest = after_steps rows first.net taken in
    let last = after_step rows rest.net p.0 p.1 in
    ap (followed first) (after_more rows first.net taken p)
    ∙ (λ i. record {
      net = last.net;
      effects = sym (joined_assoc first.effects rest.effects last.effects) i;
    })

failures_more : (taken : List (Step × Luck)) (p : Step × Luck)
    → failures_in (taken ++ p ∷ []) ≡ failures_in taken + failures_of p.1
failures_more [] p = omega arith
failures_more (q ∷ taken) p = let rest = failures_more taken p in omega (arith, rest)

pub steps_more : (taken : List (Step × Luck)) (p : Step × Luck)
    → steps_in (taken ++ p ∷ []) ≡ steps_in taken ++ p.0 ∷ []
steps_more [] p = refl
steps_more (q ∷ taken) p = ap (λ s. q.0 ∷ s) (steps_more taken p)

leaves_both : (a b : Effects) (m n : ℕ) (before mid after : Outside)
    → Leaves a m before mid → Leaves b n mid after → Leaves (joined a b) (m + n) before after
leaves_both a b m n before mid after p q = record {
  asked = records_more before.asked mid.asked after.asked a.asked b.asked p.asked q.asked;
  logged = grows_more before.calls mid.calls after.calls a.calls b.calls p.logged q.logged;
  written = grows_more before.out mid.out after.out a.text b.text p.written q.written;
  cause = rose_both m n before.kernel_faults mid.kernel_faults after.kernel_faults p.cause q.cause;
  later = let first = p.later in let second = q.later in omega (arith, first, second);
}

-- what was seen of a kernel, and what was written
pub with_written : (e : Effects) (text : List ℕ) (n : ℕ) (b a : Outside)
    → Leaves e n (mute b) (mute a) → Grows b.out a.out text → b.out_faults ≤ a.out_faults
    → Leaves (with_text e text) n b a
with_written e text n b a l written later = record {
  asked = l.asked;
  logged = l.logged;
  written = written;
  cause = l.cause;
  later = later;
}

pub none_took : (rows : Package) (net : Moment) (now : Outside) → Took rows net net [] now now
none_took rows net now = record {
  next = refl;
  left = record {
    asked = records_none now.asked;
    logged = grows_none now.calls;
    written = grows_none now.out;
    cause = omega arith;
    later = omega arith;
  };
}

-- a step behind others
module _ (rows : Package) (net mid now : Moment) (taken : List (Step × Luck)) (which : Step)
    (count : ℕ) (first b a : Outside) (took : Took rows net mid taken first b)
    (t : IsTaken rows which mid now count (mute b) (mute a)) where
  abbrev before_it : Walked
  before_it = after_steps rows net taken

  abbrev it : Walked
  it = after_step rows before_it.net which t.luck

  pub it_next : now ≡ it.net
  it_next = t.next ∙ ap (λ m. (after_step rows m which t.luck).net) took.next

  it_left : Leaves it.effects (failures_of t.luck) (mute b) (mute a)
  it_left = subst
      (λ m. Leaves (after_step rows m which t.luck).effects (failures_of t.luck) (mute b) (mute a))
      took.next t.left

  pub it_number : count ≡ length it.effects.calls
  it_number = t.number ∙ ap (λ m. length (after_step rows m which t.luck).effects.calls) took.next

  -- with its line
  pub took_more : (line : List ℕ) → line ≡ it.effects.text → Grows b.out a.out line
      → b.out_faults ≤ a.out_faults → Took rows net now (taken ++ (which, t.luck) ∷ []) first a
  took_more line is written later = record {
    next = it_next ∙ ap (λ (w : Walked). w.net) (sym (after_more rows net taken (which, t.luck)));
    left = subst (λ (w : Walked). Leaves w.effects (failures_in (taken ++ (which, t.luck) ∷ [])) first a)
        (sym (after_more rows net taken (which, t.luck)))
        (subst (λ n. Leaves (joined before_it.effects it.effects) n first a)
        (sym (failures_more taken (which, t.luck)))
        (leaves_both before_it.effects it.effects (failures_in taken) (failures_of t.luck) first b a
        took.left
        (with_written it.effects it.effects.text (failures_of t.luck) b a it_left
        (subst (Grows b.out a.out) is written) later)));
  }

  -- with a front of its line
  pub cut_behind : (front : List ℕ) → Grows b.out a.out front → b.out_faults ≤ a.out_faults
      → Leaves (joined before_it.effects (with_text it.effects front))
      (failures_in taken + failures_of t.luck) first a
  cut_behind front written later =
      leaves_both before_it.effects (with_text it.effects front) (failures_in taken)
      (failures_of t.luck) first b a took.left
      (with_written it.effects front (failures_of t.luck) b a it_left written later)

-- nothing was written while a step was halted
pub halted_seen : (rows : Package) (which : Step) (net now : Moment) (b a : Outside)
    → a.out ≡ b.out → a.out_faults ≡ b.out_faults → IsHalted rows which net now (mute b) (mute a)
    → IsHalted rows which net now b a
halted_seen rows which net now b a out faults (IsHalted.in_front same l) =
    IsHalted.in_front same (with_written no_effects [] 0 b a l
    (subst (λ o. Grows b.out o []) (sym out) (grows_none b.out)) (omega (arith, faults)))
halted_seen rows which net now b a out faults (IsHalted.behind failed count next l) =
    IsHalted.behind failed count next
    (with_written (done_and (acted net (line_of rows which) failed) count) [] (once_if failed) b a l
    (subst (λ o. Grows b.out o []) (sym out) (grows_none b.out)) (omega (arith, faults)))
