-- A settling that goes on call by call.
use Rattle.std.proofs.Common.{arith, ℕ, ◌≡◌, ◌<◌, ◌≤◌, ◌+◌, ◌^◌, ◌-◌, List, [], ◌∷◌, ◌++◌, Option, Some, None, length, take, drop, map, refl, ap, sym, subst, ◌∙◌, append-nil, length-append}
use Rattle.std.specs.Prelude.{Result, Ok, Err, codes, false, true}
use Rattle.std.proofs.lemmas.Bool.Decides.{Decides-ltb}
use Rattle.plane_words.specs.Causes.{Rose}
use Rattle.plane_words.specs.Growth.{Grows}
use Rattle.kern_model.specs.declared.object.Call.{Call}
use Rattle.kern_model.specs.declared.kernel.Kernel.{Ghosts as KernelMembers}
use Rattle.kern_model.specs.Kernel.{Records, after_call}
use Rattle.kern_model.specs.ObjectOrder.{Objects, set_of}
use Rattle.kern_model.specs.CallOrder.{after_calls}
use Rattle.net_settle.specs.Outside.{Outside}
use Rattle.net_settle.specs.Settle.{SettledAlone, StopsAtCall, StopsAtLine, lines_of, whole_line, done_call, failed_call}
use Rattle.net_settle.proofs.SettleLemmas.{nothing_settled, settled_more, records_more, grows_more}
use Rattle.net_plane.specs.declared.net_error.NetError.{NetError}
use Rattle.net_plane.specs.declared.net_error.NetError.TheVariants as error
use Rattle.net_plane.specs.Network.{Network, moment_of, calls_of}
use Rattle.net_plane.specs.Settled as plane
use Rattle.step_net.specs.Moved.{due, failed_at_call, settled}
use Rattle.kern_model.specs.Line.{line_of}
use Rattle.net_gen.specs.Counted.{IsCounted, IsBrokenOff}

-- what is seen but for the output
abbrev pub mute : Outside → Outside
mute o = record {
  out = None;
  devices = o.devices;
  objects = o.objects;
  calls = o.calls;
  asked = o.asked;
  out_faults = 0;
  kernel_faults = o.kernel_faults;
}

-- what is seen of a kernel and of an output that takes nothing
abbrev pub unwritten : {K : Type 0} → KernelMembers K → K → Outside
unwritten kernel state = record {
  out = Some [];
  devices = kernel.devices state;
  objects = kernel.objects state;
  calls = kernel.calls state;
  asked = kernel.asked state;
  out_faults = 2 ^ 64 - 1;
  kernel_faults = kernel.faults state;
}

line_long : (call : Call) → 0 < length (whole_line call)
line_long call = let n = length-append (line_of call) (codes "\n") in omega (arith, n)

-- where nothing was written, no line was
none_written : (made : List Call) (front : List ℕ)
    → Grows (Some []) (Some []) (lines_of made ++ front) → made ≡ []
none_written [] front h = refl
none_written (c ∷ cs) front h =
    let same : [] ≡ lines_of (c ∷ cs) ++ front = cc h in
    let n : 0 ≡ length (lines_of (c ∷ cs) ++ front) = ap length same in
    let a = length-append (lines_of (c ∷ cs)) front in
    let b = length-append (whole_line c) (lines_of cs) in
    let l = line_long c in
    absurd (omega (arith, n, a, b, l))

take_all : (xs ys : List Call) → take (length xs) (xs ++ ys) ≡ xs
take_all [] ys = refl
take_all (x ∷ xs) ys = ap (λ zs. x ∷ zs) (take_all xs ys)

drop_all : (xs ys : List Call) → drop (length xs) (xs ++ ys) ≡ ys
drop_all [] ys = refl
drop_all (x ∷ xs) ys = drop_all xs ys

-- so many calls were made, and nothing else happened
pub record SoFar (old now : Network) (first mid : Outside) (count : ℕ) : Type 0 where
  pub settled : SettledAlone (calls_of old) (calls_of now) first mid
  pub number : count + length (calls_of now) ≡ length (calls_of old)
  pub inputs : now.inputs ≡ old.inputs
  pub notices : now.notices ≡ old.notices
  pub later : first.kernel_faults ≤ mid.kernel_faults

pub none_so_far : (old : Network) (first : Outside) → SoFar old old first first 0
none_so_far old first = record {
  settled = nothing_settled (calls_of old) first;
  number = omega arith;
  inputs = refl;
  notices = refl;
  later = omega arith;
}

-- the calls so far, and what is left
module _ (old now : Network) (first mid : Outside) (count : ℕ) (far : SoFar old now first mid count) where
  abbrev made_so_far : List Call
  made_so_far = far.settled.settled.made

  so_many : count ≡ length made_so_far
  so_many =
      let n = far.number in
      let m = ap length far.settled.settled.parts in
      let a = length-append made_so_far (calls_of now) in
      omega (arith, n, m, a)

  front_so_far : take count (calls_of old) ≡ made_so_far
  front_so_far = ap (λ n. take n (calls_of old)) so_many
      ∙ ap (take (length made_so_far)) far.settled.settled.parts
      ∙ take_all made_so_far (calls_of now)

  left_so_far : drop count (calls_of old) ≡ calls_of now
  left_so_far = ap (λ n. drop n (calls_of old)) so_many
      ∙ ap (drop (length made_so_far)) far.settled.settled.parts
      ∙ drop_all made_so_far (calls_of now)

now_settled : (old new : Network) (first last : Outside) → first.objects ≡ set_of old.held
    → last.objects ≡ set_of new.held → new.inputs ≡ old.inputs → (done : List Call)
    → last.objects ≡ after_calls first.objects done
    → moment_of new ≡ settled (moment_of old) done
now_settled old new first last held now_held inputs done did =
    let objects : set_of new.held ≡ after_calls (set_of old.held) done =
    sym now_held ∙ did ∙ ap (λ o. after_calls o done) held in
    λ i. record { inputs = inputs i; held = objects i }

-- more calls were due than can be counted
pub broken_off : (old now : Network) (f m : Outside) (count : ℕ)
    → SoFar old now (mute f) (mute m) count → f.objects ≡ set_of old.held
    → m.objects ≡ set_of now.held → IsBrokenOff (moment_of old) (moment_of now) (mute f) (mute m)
broken_off old now f m count far held now_held =
    let done = front_so_far old now (mute f) (mute m) count far in
    let did : m.objects ≡ after_calls f.objects (take count (calls_of old)) =
    far.settled.settled.done.held ∙ ap (after_calls f.objects) (sym done) in
    record {
      count = count;
      next = now_settled old now (mute f) (mute m) held now_held far.inputs
          (take count (calls_of old)) did;
      asked = subst (λ c. Records f.asked m.asked (map done_call c)) (sym done) far.settled.asked;
      logged = subst (Grows f.calls m.calls) (sym done) far.settled.settled.done.logged;
      objects = did;
      later = far.later;
    }

-- one more settling, into an output that takes nothing
module _ (old now next : Network) (f b a : Outside) (count : ℕ)
    (far : SoFar old now (mute f) (mute b) count) (none : b.out ≡ Some [])
    (still : a.out ≡ Some []) (inputs : next.inputs ≡ now.inputs)
    (notices : next.notices ≡ now.notices) (later : b.kernel_faults ≤ a.kernel_faults) where
  bare_lines : (made : List Call) (front : List ℕ) → Grows b.out a.out (lines_of made ++ front)
      → made ≡ []
  bare_lines made front h =
      none_written made front (subst (λ o. Grows (Some []) o (lines_of made ++ front)) still
      (subst (λ o. Grows o a.out (lines_of made ++ front)) none h))

  bare_alone : (made : List Call) → Grows b.out a.out (lines_of made) → made ≡ []
  bare_alone made h =
      bare_lines made [] (subst (Grows b.out a.out) (sym (append-nil (lines_of made))) h)

  -- it made one call
  pub one_more : StopsAtLine (calls_of now) (calls_of next) b a
      → SoFar old next (mute f) (mute a) (count + 1)
  one_more s =
      let bare : s.earlier ≡ [] = bare_lines s.earlier s.front s.printed in
      let parts : calls_of now ≡ s.last ∷ calls_of next =
      s.parts ∙ ap (λ e. e ++ s.last ∷ calls_of next) bare in
      let did : a.objects ≡ after_call b.objects s.last =
      s.done.held ∙ ap (λ e. after_calls b.objects (e ++ s.last ∷ [])) bare in
      let logged : Grows b.calls a.calls (s.last ∷ []) =
      subst (λ e. Grows b.calls a.calls (e ++ s.last ∷ [])) bare s.done.logged in
      let asked : Records b.asked a.asked (done_call s.last ∷ []) =
      subst (λ e. Records b.asked a.asked (map done_call (e ++ s.last ∷ []))) bare s.asked in
      record {
        settled = settled_more (calls_of old) (calls_of next) s.last (mute f) (mute b) (mute a)
            (subst (λ r. SettledAlone (calls_of old) r (mute f) (mute b)) parts far.settled)
            did logged asked refl;
        number = let n = far.number in let m = ap length parts in omega (arith, n, m);
        inputs = inputs ∙ far.inputs;
        notices = notices ∙ far.notices;
        later = let so_far = far.later in omega (arith, so_far, later);
      }

  module _ (held : f.objects ≡ set_of old.held) (next_held : a.objects ≡ set_of next.held) where
    -- no call was left
    pub ended : SettledAlone (calls_of now) [] b a
        → IsCounted (moment_of old) (moment_of next) count (mute f) (mute a)
    ended s =
        let bare : s.settled.made ≡ [] = bare_alone s.settled.made s.settled.printed in
        let left : calls_of now ≡ [] = s.settled.parts ∙ ap (λ m. m ++ []) bare in
        let done = far.settled.settled.made in
        let all : done ≡ calls_of old =
        sym (far.settled.settled.parts ∙ ap (λ r. done ++ r) left ∙ append-nil done) in
        let same : a.objects ≡ b.objects =
        s.settled.done.held ∙ ap (after_calls b.objects) bare in
        let did : a.objects ≡ after_calls f.objects (calls_of old) =
        same ∙ far.settled.settled.done.held ∙ ap (after_calls f.objects) all in
        record {
          stopped = false;
          settling = record {
            failed_after = None;
            stops = refl;
            next = now_settled old next (mute f) (mute a) held next_held
                (inputs ∙ far.inputs) (calls_of old) did;
            asked = records_more f.asked b.asked a.asked (map done_call (calls_of old)) []
                (subst (λ c. Records f.asked b.asked (map done_call c)) all far.settled.asked)
                (subst (λ c. Records b.asked a.asked (map done_call c)) bare s.asked);
            logged = subst (Grows f.calls a.calls) (append-nil done ∙ all)
                (grows_more f.calls b.calls a.calls done [] far.settled.settled.done.logged
                (subst (Grows b.calls a.calls) bare s.settled.done.logged));
            objects = did;
            written = refl;
            cause = let so_far = far.later in omega (arith, so_far, later);
            later = omega arith;
          };
          number = let n = far.number in let m = ap length left in omega (arith, n, m);
        }

    -- a call failed
    failed : StopsAtCall (calls_of now) (calls_of next) b a
        → IsCounted (moment_of old) (moment_of next) count (mute f) (mute a)
    failed s =
        let bare : s.settled.made ≡ [] = bare_alone s.settled.made s.settled.printed in
        let left : calls_of now ≡ s.failed ∷ s.others =
        s.settled.parts ∙ ap (λ m. m ++ calls_of next) bare ∙ s.first in
        let done = far.settled.settled.made in
        let front : done ≡ take count (calls_of old) =
        sym (front_so_far old now (mute f) (mute b) count far) in
        let at : failed_call s.failed ∷ [] ≡ failed_at_call (calls_of old) (Some count) =
        sym (ap (λ rest. map failed_call (take 1 rest))
        (left_so_far old now (mute f) (mute b) count far ∙ left)) in
        let same : a.objects ≡ b.objects =
        s.settled.done.held ∙ ap (after_calls b.objects) bare in
        let did : a.objects ≡ after_calls f.objects (take count (calls_of old)) =
        same ∙ far.settled.settled.done.held ∙ ap (after_calls f.objects) front in
        let shorter : count < length (calls_of old) =
        (let n = far.number in let m = ap length left in omega (arith, n, m)) in
        let risen = s.cause in
        let so_far = far.later in
        record {
          stopped = true;
          settling = record {
            failed_after = Some count;
            stops = sym ((Decides-ltb count (length (calls_of old))).1 shorter);
            next = now_settled old next (mute f) (mute a) held next_held
                (inputs ∙ far.inputs) (take count (calls_of old)) did;
            asked = records_more f.asked b.asked a.asked (map done_call (take count (calls_of old)))
                (failed_at_call (calls_of old) (Some count))
                (subst (λ c. Records f.asked b.asked (map done_call c)) front far.settled.asked)
                (subst (Records b.asked a.asked) at
                (subst (λ c. Records b.asked a.asked (map done_call c ++ failed_call s.failed ∷ []))
                bare s.asked));
            logged = subst (Grows f.calls a.calls) (append-nil done ∙ front)
                (grows_more f.calls b.calls a.calls done [] far.settled.settled.done.logged
                (subst (Grows b.calls a.calls) bare s.settled.done.logged));
            objects = did;
            written = refl;
            cause = omega (arith, so_far, risen);
            later = omega arith;
          };
          number = so_many old now (mute f) (mute b) count far ∙ ap length front;
        }

    -- it came to its end, or to a call that failed
    pub counted : {X : Type 0} (result : Result X NetError) → (result ≡ Err error.WriteFailed → ⊥)
        → plane.Settles (calls_of now) (calls_of next) b a result
        → IsCounted (moment_of old) (moment_of next) count (mute f) (mute a)
    counted (Ok x) other s = ended s.1
    counted (Err error.KernelFailed) other s = failed s
    counted (Err error.WriteFailed) other s = absurd (other refl)
    counted (Err error.NoInterface) other s = absurd s
    counted (Err (error.Stale given current)) other s = absurd s
    counted (Err error.NoDevice) other s = absurd s
    counted (Err error.Known) other s = absurd s
    counted (Err (error.WrongPorts wanted)) other s = absurd s
    counted (Err (error.Limit number)) other s = absurd s
    counted (Err error.NoRadio) other s = absurd s
    counted (Err error.Memory) other s = absurd s

    -- and it failed where a call is left
    pub rose : {X : Type 0} (result : Result X NetError) (e : NetError) → result ≡ Err e
        → (result ≡ Err error.WriteFailed → ⊥)
        → plane.Settles (calls_of now) (calls_of next) b a result
        → Rose f.kernel_faults a.kernel_faults
    rose (Ok x) e is other s = absurd (cc is)
    rose (Err error.KernelFailed) e is other s =
        let risen = s.cause in let so_far = far.later in omega (arith, so_far, risen)
    rose (Err error.WriteFailed) e is other s = absurd (other refl)
    rose (Err error.NoInterface) e is other s = absurd s
    rose (Err (error.Stale given current)) e is other s = absurd s
    rose (Err error.NoDevice) e is other s = absurd s
    rose (Err error.Known) e is other s = absurd s
    rose (Err (error.WrongPorts ports)) e is other s = absurd s
    rose (Err (error.Limit number)) e is other s = absurd s
    rose (Err error.NoRadio) e is other s = absurd s
    rose (Err error.Memory) e is other s = absurd s
