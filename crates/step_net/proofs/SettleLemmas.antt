-- Settlings and answers.
use Rattle.std.proofs.Common.{arith, ℕ, ◌≡◌, ◌<◌, ◌≤◌, List, [], ◌∷◌, ◌++◌, Option, Some, None, Bool, false, true, length, take, drop, map, refl, ap, sym, subst, ◌∙◌, append_assoc, append-nil}
use Rattle.std.specs.Prelude.{Result, Ok, Err, OnOk, OnErr}
use Rattle.std.proofs.lemmas.Bool.Decides.{Decides-ltb}
use Rattle.plane_words.specs.Causes.{Rose}
use Rattle.plane_words.specs.Growth.{Grows, GrowsByFront}
use Rattle.kern_model.specs.declared.object.Call.{Call}
use Rattle.kern_model.specs.Kernel.{Records}
use Rattle.kern_model.specs.ObjectOrder.{set_of}
use Rattle.kern_model.specs.CallOrder.{after_calls}
use Rattle.net_rules.specs.Moment.{Moment}
use Rattle.net_settle.specs.Outside.{Outside}
use Rattle.net_settle.specs.Settle.{SettledAlone, StopsAtCall, StopsAtLine, lines_of, whole_line, done_call, failed_call}
use Rattle.net_plane.specs.declared.net_error.NetError.{NetError}
use Rattle.net_plane.specs.declared.net_error.NetError.TheVariants as error
use Rattle.net_plane.specs.Network.{Network, moment_of, calls_of}
use Rattle.net_plane.specs.Settled as plane
use Rattle.step_net.specs.Moved.{Telling, due, made, is_stopped, failed_at_call, asked_in, settled, last_line, is_fine}
use Rattle.step_net.specs.Finished.{KeepsPace, IsFinished, IsCutShort, IsOpened, IsOpenedInPart, Opens, IsSettled, IsSettledInPart}
use Rattle.step_net.proofs.GrowthLemmas.{grows_more, grows_to_front, front_of_more}

lines_append : (xs ys : List Call) → lines_of (xs ++ ys) ≡ lines_of xs ++ lines_of ys
lines_append [] ys = refl
lines_append (x ∷ xs) ys =
    ap (λ z. whole_line x ++ z) (lines_append xs ys)
    ∙ sym (append_assoc (whole_line x) (lines_of xs) (lines_of ys))

take_all : (xs ys : List Call) → take (length xs) (xs ++ ys) ≡ xs
take_all [] ys = refl
take_all (x ∷ xs) ys = ap (λ zs. x ∷ zs) (take_all xs ys)

drop_all : (xs ys : List Call) → drop (length xs) (xs ++ ys) ≡ ys
drop_all [] ys = refl
drop_all (x ∷ xs) ys = drop_all xs ys

shorter : (xs : List Call) (y : Call) (ys : List Call) → length xs < length (xs ++ y ∷ ys)
shorter [] y ys = omega arith
shorter (x ∷ xs) y ys = let rest = shorter xs y ys in omega arith

-- the plane and its kernel before a settling and after it
module _ (old new : Network) (before after : Outside) (held : before.objects ≡ set_of old.held)
    (now_held : after.objects ≡ set_of new.held) (inputs : new.inputs ≡ old.inputs)
    (kernel_later : before.kernel_faults ≤ after.kernel_faults)
    (out_later : before.out_faults ≤ after.out_faults) where
  now_settled : (done : List Call) → after.objects ≡ after_calls before.objects done
      → moment_of new ≡ settled (moment_of old) done
  now_settled done did =
      let objects : set_of new.held ≡ after_calls (set_of old.held) done =
      sym now_held ∙ did ∙ ap (λ o. after_calls o done) held in
      λ i. record { inputs = inputs i; held = objects i }

  -- all calls were made
  pub settled_whole : SettledAlone (calls_of old) [] before after
      → IsSettled (moment_of old) (moment_of new) before after false
  settled_whole s =
      let all : s.settled.made ≡ calls_of old = sym (s.settled.parts ∙ append-nil s.settled.made) in
      let did = subst (λ m. after.objects ≡ after_calls before.objects m) all s.settled.done.held in
      record {
        failed_after = None;
        stops = refl;
        next = now_settled (calls_of old) did;
        asked = subst (Records before.asked after.asked)
            (ap (map done_call) all ∙ sym (append-nil (map done_call (calls_of old)))) s.asked;
        logged = subst (Grows before.calls after.calls) all s.settled.done.logged;
        objects = did;
        written = subst (λ m. Grows before.out after.out (lines_of m)) all s.settled.printed;
        cause = omega arith;
        later = out_later;
      }

  -- a call failed
  pub settled_to_failure : (left : List Call) → StopsAtCall (calls_of old) left before after
      → IsSettled (moment_of old) (moment_of new) before after true
  settled_to_failure left s =
      let done = s.settled.made in
      let parts : calls_of old ≡ done ++ s.failed ∷ s.others =
      s.settled.parts ∙ ap (λ rest. done ++ rest) s.first in
      let all : done ≡ take (length done) (calls_of old) =
      sym (ap (take (length done)) parts ∙ take_all done (s.failed ∷ s.others)) in
      let failed : failed_call s.failed ∷ [] ≡ failed_at_call (calls_of old) (Some (length done)) =
      sym (ap (λ rest. map failed_call (take 1 rest))
      (ap (drop (length done)) parts ∙ drop_all done (s.failed ∷ s.others))) in
      let did = subst (λ m. after.objects ≡ after_calls before.objects m) all s.settled.done.held in
      record {
        failed_after = Some (length done);
        stops = sym ((Decides-ltb (length done) (length (calls_of old))).1
            (subst (λ calls. length done < length calls) (sym parts) (shorter done s.failed s.others)));
        next = now_settled (take (length done) (calls_of old)) did;
        asked = subst (Records before.asked after.asked)
            (ap (λ m. map done_call m ++ failed_call s.failed ∷ []) all
            ∙ ap (λ f. map done_call (take (length done) (calls_of old)) ++ f) failed) s.asked;
        logged = subst (Grows before.calls after.calls) all s.settled.done.logged;
        objects = did;
        written = subst (λ m. Grows before.out after.out (lines_of m)) all s.settled.printed;
        cause = s.cause;
        later = out_later;
      }

  -- a line was not written, or not wholly
  pub settled_in_part : (left : List Call) → StopsAtLine (calls_of old) left before after
      → IsSettledInPart (moment_of old) before after
  settled_in_part left s =
      let parts : calls_of old ≡ (s.earlier ++ s.last ∷ []) ++ left =
      s.parts ∙ sym (append_assoc s.earlier (s.last ∷ []) left) in
      record {
        calls = s.earlier ++ s.last ∷ [];
        not_made = left;
        parts = parts;
        asked = s.asked;
        logged = s.done.logged;
        objects = s.done.held;
        written = record {
          front = lines_of s.earlier ++ s.front;
          back = s.back ++ lines_of left;
          parts = ap lines_of s.parts ∙ lines_append s.earlier (s.last ∷ left)
              ∙ ap (λ x. lines_of s.earlier ++ (x ++ lines_of left)) s.line
              ∙ ap (λ x. lines_of s.earlier ++ x) (append_assoc s.front s.back (lines_of left))
              ∙ sym (append_assoc (lines_of s.earlier) s.front (s.back ++ lines_of left));
          grows = s.printed;
        };
        pace = KeepsPace.within s.earlier s.last s.front s.back refl s.line refl;
        later = kernel_later;
        out_later = out_later;
        cause = s.cause;
      }

  -- an error of a settling that is none of the kernel is one of the output
  pub settled_else : {X : Type 0} (left : List Call) (ended : Result X NetError) (e : NetError)
      → ended ≡ Err e → (e ≡ error.KernelFailed → ⊥)
      → plane.Settles (calls_of old) left before after ended
      → IsSettledInPart (moment_of old) before after
  settled_else left (Err error.WriteFailed) e is other s = settled_in_part left s
  settled_else left (Err error.KernelFailed) e is other s = absurd (other (cc is))
  settled_else left (Ok x) e is other s = absurd (cc is)
  settled_else left (Err error.NoInterface) e is other s = absurd s
  settled_else left (Err (error.Stale given current)) e is other s = absurd s
  settled_else left (Err error.NoDevice) e is other s = absurd s
  settled_else left (Err error.Known) e is other s = absurd s
  settled_else left (Err (error.WrongPorts wanted)) e is other s = absurd s
  settled_else left (Err (error.Limit number)) e is other s = absurd s
  settled_else left (Err error.NoRadio) e is other s = absurd s
  settled_else left (Err error.Memory) e is other s = absurd s

-- a settling came to its end, and then something was written
module _ (net now : Moment) (telling : Telling) (before mid after : Outside) (stopped : Bool)
    (s : IsSettled net now before mid stopped) (asked : after.asked ≡ mid.asked)
    (calls : after.calls ≡ mid.calls) (objects : after.objects ≡ mid.objects)
    (faults : after.kernel_faults ≡ mid.kernel_faults) where
  abbrev done : List Call
  done = made (due net) s.failed_after

  abbrev last : List ℕ
  last = last_line telling.refusal (is_stopped (due net) s.failed_after)

  last_is : last_line telling.refusal stopped ≡ last
  last_is = ap (last_line telling.refusal) s.stops

  pub answered : (between : Option (List ℕ)) → Grows mid.out between telling.shown
      → Grows between after.out (last_line telling.refusal stopped)
      → mid.out_faults ≤ after.out_faults → (is_ok : Bool)
      → is_ok ≡ is_fine telling.refusal stopped
      → IsFinished net now telling before after is_ok
  answered between shown line later is_ok fine = record {
    failed_after = s.failed_after;
    next = s.next;
    answer = fine ∙ ap (is_fine telling.refusal) s.stops;
    left = record {
      asked = subst (λ x. Records before.asked x (asked_in (due net) s.failed_after)) (sym asked) s.asked;
      logged = subst (λ x. Grows before.calls x done) (sym calls) s.logged;
      written = grows_more before.out mid.out after.out (lines_of done) (telling.shown ++ last) s.written
          (grows_more mid.out between after.out telling.shown last shown
          (subst (Grows between after.out) last_is line));
      cause = let c = s.cause in omega arith;
      later = let l = s.later in omega arith;
    };
  }

  cut_at : GrowsByFront mid.out after.out (telling.shown ++ last) → Rose before.out_faults after.out_faults
      → before.out_faults ≤ after.out_faults → IsCutShort net telling before after
  unfolding grows_to_front
  cut_at written rose later =
      let text = grows_to_front before.out mid.out after.out (lines_of done) (telling.shown ++ last) s.written written in
      record {
        failed_after = s.failed_after;
        left = record {
          front = record { asked = asked_in (due net) s.failed_after; calls = done; text = text.front };
          back = record { asked = []; calls = []; text = text.back };
          parts = λ i. record {
            asked = sym (append-nil (asked_in (due net) s.failed_after)) i;
            calls = sym (append-nil done) i;
            text = text.parts i;
          };
          left = record {
            asked = subst (λ x. Records before.asked x (asked_in (due net) s.failed_after)) (sym asked) s.asked;
            logged = subst (λ x. Grows before.calls x done) (sym calls) s.logged;
            written = text.grows;
            cause = let c = s.cause in omega arith;
            later = later;
          };
        };
        pace = KeepsPace.behind written.front refl refl;
        objects = objects ∙ s.objects;
        cause = rose;
      }

  pub cut_at_shown : GrowsByFront mid.out after.out telling.shown → Rose before.out_faults after.out_faults
      → before.out_faults ≤ after.out_faults → IsCutShort net telling before after
  cut_at_shown written rose later =
      cut_at (front_of_more mid.out after.out telling.shown last written) rose later

  pub cut_at_last : (between : Option (List ℕ)) → Grows mid.out between telling.shown
      → GrowsByFront between after.out (last_line telling.refusal stopped)
      → Rose before.out_faults after.out_faults → before.out_faults ≤ after.out_faults
      → IsCutShort net telling before after
  cut_at_last between shown written rose later =
      cut_at (grows_to_front mid.out between after.out telling.shown last shown
      (subst (GrowsByFront between after.out) last_is written)) rose later

map_append : (xs ys : List Call) → map done_call (xs ++ ys) ≡ map done_call xs ++ map done_call ys
map_append [] ys = refl
map_append (x ∷ xs) ys = ap (λ z. done_call x ∷ z) (map_append xs ys)

-- a settling was cut short
pub cut_in_settling : (net : Moment) (telling : Telling) (before after : Outside)
    → IsSettledInPart net before after → IsCutShort net telling before after
unfolding front_of_more
cut_in_settling net telling before after s =
    let text = front_of_more before.out after.out (lines_of (due net))
    (telling.shown ++ last_line telling.refusal false) s.written in
    let asked = append-nil (map done_call (due net)) ∙ ap (map done_call) s.parts
    ∙ map_append s.calls s.not_made in
    record {
      failed_after = None;
      left = record {
        front = record { asked = map done_call s.calls; calls = s.calls; text = text.front };
        back = record { asked = map done_call s.not_made; calls = s.not_made; text = text.back };
        parts = λ i. record { asked = asked i; calls = s.parts i; text = text.parts i };
        left = record {
          asked = s.asked;
          logged = s.logged;
          written = text.grows;
          cause = let later = s.later in omega arith;
          later = s.out_later;
        };
      };
      pace = s.pace;
      objects = s.objects;
      cause = s.cause;
    }

-- a settling came to its end, and then a text was written
module _ (net now : Moment) (text : List ℕ) (before mid after : Outside) (stopped : Bool)
    (s : IsSettled net now before mid stopped) (asked : after.asked ≡ mid.asked)
    (calls : after.calls ≡ mid.calls) (objects : after.objects ≡ mid.objects)
    (faults : after.kernel_faults ≡ mid.kernel_faults) where
  abbrev opened_done : List Call
  opened_done = made (due net) s.failed_after

  pub shown_whole : Grows mid.out after.out text → mid.out_faults ≤ after.out_faults
      → IsOpened net now text before after
  shown_whole written later = record {
    failed_after = s.failed_after;
    next = s.next;
    left = record {
      asked = subst (λ x. Records before.asked x (asked_in (due net) s.failed_after)) (sym asked) s.asked;
      logged = subst (λ x. Grows before.calls x opened_done) (sym calls) s.logged;
      written = grows_more before.out mid.out after.out (lines_of opened_done) text s.written written;
      cause = let c = s.cause in omega arith;
      later = let l = s.later in omega arith;
    };
  }

  pub shown_in_part : GrowsByFront mid.out after.out text → Rose before.out_faults after.out_faults
      → before.out_faults ≤ after.out_faults → IsOpenedInPart net text before after
  unfolding grows_to_front
  shown_in_part written rose later =
      let front = grows_to_front before.out mid.out after.out (lines_of opened_done) text s.written written in
      record {
        failed_after = s.failed_after;
        left = record {
          front = record { asked = asked_in (due net) s.failed_after; calls = opened_done; text = front.front };
          back = record { asked = []; calls = []; text = front.back };
          parts = λ i. record {
            asked = sym (append-nil (asked_in (due net) s.failed_after)) i;
            calls = sym (append-nil opened_done) i;
            text = front.parts i;
          };
          left = record {
            asked = subst (λ x. Records before.asked x (asked_in (due net) s.failed_after)) (sym asked) s.asked;
            logged = subst (λ x. Grows before.calls x opened_done) (sym calls) s.logged;
            written = front.grows;
            cause = let c = s.cause in omega arith;
            later = later;
          };
        };
        pace = KeepsPace.behind written.front refl refl;
        objects = objects ∙ s.objects;
        cause = rose;
      }

-- a settling came to its end, and then a text was written, or a front of it
pub opening_ends : {X E : Type 0} (net now : Moment) (text : List ℕ) (before mid after : Outside)
    (stopped : Bool) → IsSettled net now before mid stopped → after.asked ≡ mid.asked
    → after.calls ≡ mid.calls → after.objects ≡ mid.objects → after.kernel_faults ≡ mid.kernel_faults
    → (result : Result X E) → OnOk result (Grows mid.out after.out text)
    → OnErr result (GrowsByFront mid.out after.out text)
    → OnErr result (Rose mid.out_faults after.out_faults) → mid.out_faults ≤ after.out_faults
    → Opens net now text before after result
opening_ends net now text before mid after stopped s asked calls objects faults (Ok x) whole part rose later =
    shown_whole net now text before mid after stopped s asked calls objects faults whole later
opening_ends net now text before mid after stopped s asked calls objects faults (Err e) whole part rose later =
    let first = s.later in
    shown_in_part net now text before mid after stopped s asked calls objects faults part
    (omega (arith, first, rose)) (omega (arith, first, later))

-- the settling in front of a text was cut short
pub opening_cut : (net : Moment) (text : List ℕ) (before after : Outside)
    → IsSettledInPart net before after → IsOpenedInPart net text before after
unfolding front_of_more
opening_cut net text before after s =
    let front = front_of_more before.out after.out (lines_of (due net)) text s.written in
    let asked = append-nil (map done_call (due net)) ∙ ap (map done_call) s.parts
    ∙ map_append s.calls s.not_made in
    record {
      failed_after = None;
      left = record {
        front = record { asked = map done_call s.calls; calls = s.calls; text = front.front };
        back = record { asked = map done_call s.not_made; calls = s.not_made; text = front.back };
        parts = λ i. record { asked = asked i; calls = s.parts i; text = front.parts i };
        left = record {
          asked = s.asked;
          logged = s.logged;
          written = front.grows;
          cause = let later = s.later in omega arith;
          later = s.out_later;
        };
      };
      pace = s.pace;
      objects = s.objects;
      cause = s.cause;
    }
