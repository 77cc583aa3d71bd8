-- Calls that are made one after the other.
use Rattle.std.proofs.Common.{◌≡◌, inl, inr, List, [], ◌∷◌, ◌++◌, Option, Some, None, map, refl, ap, sym, subst, ◌∙◌, append_assoc, append-nil}
use Rattle.plane_words.specs.Causes.{Rose}
use Rattle.plane_words.specs.Growth.{Grows, GrowsByFront}
use Rattle.kern_model.specs.declared.object.Call.{Call}
use Rattle.kern_model.specs.declared.kernel.Asked.{Asked}
use Rattle.kern_model.specs.ObjectOrder.{Objects}
use Rattle.kern_model.specs.Kernel.{Records, after_call}
use Rattle.kern_model.specs.CallOrder.{after_calls}
use Rattle.net_settle.specs.Outside.{Outside}
use Rattle.net_settle.specs.Settle.{Made, Settled, SettledAlone, StopsAtCall, StopsAtLine, lines_of, whole_line, done_call, failed_call}

after_one_more : (objects : Objects) (made : List Call) (call : Call) → after_calls objects (made ++ call ∷ []) ≡ after_call (after_calls objects made) call
after_one_more objects [] call = refl
after_one_more objects (c ∷ made) call = after_one_more (after_call objects c) made call

lines_of_one_more : (made : List Call) (call : Call) → lines_of (made ++ call ∷ []) ≡ lines_of made ++ whole_line call
lines_of_one_more [] call = append-nil (whole_line call)
lines_of_one_more (c ∷ made) call = ap (λ x. whole_line c ++ x) (lines_of_one_more made call) ∙ sym (append_assoc (whole_line c) (lines_of made) (whole_line call))

pub grows_more : {X : Type 0} → (old between new : Option (List X)) (xs ys : List X) → Grows old between xs → Grows between new ys → Grows old new (xs ++ ys)
grows_more None None new xs ys p q = q
grows_more None (Some l) new xs ys p q = cc p
grows_more (Some o) None new xs ys p q = cc p
grows_more (Some o) (Some l) new xs ys p q = let same : l ≡ o ++ xs = cc p in q ∙ ap (λ x. Some (x ++ ys)) same ∙ ap Some (append_assoc o xs ys)

pub grows_none : {X : Type 0} → (held : Option (List X)) → Grows held held []
grows_none None = refl
grows_none (Some l) = ap Some (sym (append-nil l))

-- what was asked, where it is told
pub records_none : (asked : Option (List Asked)) → Records asked asked []
records_none asked = inr (grows_none asked)

pub records_more : (old between new : Option (List Asked)) (xs ys : List Asked) → Records old between xs → Records between new ys → Records old new (xs ++ ys)
records_more old between new xs ys p (inl ended) = inl ended
records_more old between new xs ys (inl ended) (inr q) = inl (subst (λ l. Grows l new ys) ended q)
records_more old between new xs ys (inr p) (inr q) = inr (grows_more old between new xs ys p q)

done_one_more : (made : List Call) (call : Call) → map done_call (made ++ call ∷ []) ≡ map done_call made ++ done_call call ∷ []
done_one_more [] call = refl
done_one_more (c ∷ made) call = ap (λ asked. done_call c ∷ asked) (done_one_more made call)

pub nothing_settled : (calls : List Call) (before : Outside) → SettledAlone calls calls before before
nothing_settled calls before = record {
  settled = record { made = []; parts = refl; done = record { held = refl; logged = grows_none before.calls }; printed = grows_none before.out };
  asked = records_none before.asked;
}

module _ (calls rest : List Call) (call : Call) (before between after : Outside) where
  made_more : (s : Settled calls (call ∷ rest) before between) → after.objects ≡ after_call between.objects call → Grows between.calls after.calls (call ∷ []) → Made (s.made ++ call ∷ []) before after
  made_more s did logged = record {
    held = did ∙ ap (λ o. after_call o call) s.done.held ∙ sym (after_one_more before.objects s.made call);
    logged = grows_more before.calls between.calls after.calls s.made (call ∷ []) s.done.logged logged;
  }

  parts_more : (s : Settled calls (call ∷ rest) before between) → calls ≡ (s.made ++ call ∷ []) ++ rest
  parts_more s = s.parts ∙ sym (append_assoc s.made (call ∷ []) rest)

  asked_more : (s : SettledAlone calls (call ∷ rest) before between) → Records between.asked after.asked (done_call call ∷ []) → Records before.asked after.asked (map done_call (s.settled.made ++ call ∷ []))
  asked_more s asked = subst (Records before.asked after.asked) (sym (done_one_more s.settled.made call)) (records_more before.asked between.asked after.asked (map done_call s.settled.made) (done_call call ∷ []) s.asked asked)

  -- the next call was made, and its line written
  pub settled_more : SettledAlone calls (call ∷ rest) before between → after.objects ≡ after_call between.objects call → Grows between.calls after.calls (call ∷ []) → Records between.asked after.asked (done_call call ∷ [])
      → Grows between.out after.out (whole_line call) → SettledAlone calls rest before after
  settled_more s did logged asked written = record {
    settled = record {
      made = s.settled.made ++ call ∷ [];
      parts = parts_more s.settled;
      done = made_more s.settled did logged;
      printed = subst (Grows before.out after.out) (sym (lines_of_one_more s.settled.made call)) (grows_more before.out between.out after.out (lines_of s.settled.made) (whole_line call) s.settled.printed written);
    };
    asked = asked_more s asked;
  }

  -- it was made, and its line not written
  pub stops_at_line : SettledAlone calls (call ∷ rest) before between → after.objects ≡ after_call between.objects call → Grows between.calls after.calls (call ∷ []) → Records between.asked after.asked (done_call call ∷ [])
      → GrowsByFront between.out after.out (whole_line call) → Rose before.out_faults after.out_faults → StopsAtLine calls rest before after
  stops_at_line s did logged asked written rose = record {
    earlier = s.settled.made;
    last = call;
    parts = s.settled.parts;
    done = made_more s.settled did logged;
    front = written.front;
    back = written.back;
    line = written.parts;
    printed = grows_more before.out between.out after.out (lines_of s.settled.made) written.front s.settled.printed written.grows;
    asked = asked_more s asked;
    cause = rose;
  }

  -- it failed
  pub stops_at_call : SettledAlone calls (call ∷ rest) before between → after.objects ≡ between.objects → after.calls ≡ between.calls → after.out ≡ between.out → Records between.asked after.asked (failed_call call ∷ [])
      → Rose before.kernel_faults after.kernel_faults → StopsAtCall calls (call ∷ rest) before after
  stops_at_call s held logged out asked rose = record {
    failed = call;
    others = rest;
    first = refl;
    settled = record {
      made = s.settled.made;
      parts = s.settled.parts;
      done = record { held = held ∙ s.settled.done.held; logged = subst (λ l. Grows before.calls l s.settled.made) (sym logged) s.settled.done.logged };
      printed = subst (λ o. Grows before.out o (lines_of s.settled.made)) (sym out) s.settled.printed;
    };
    asked = records_more before.asked between.asked after.asked (map done_call s.settled.made) (failed_call call ∷ []) s.asked asked;
    cause = rose;
  }
