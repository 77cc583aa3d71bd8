-- Lines that are carried out.
use Rattle.std.proofs.Common.{arith, ℕ, ◌≡◌, ◌≤◌, ◌+◌, List, [], ◌++◌, Option, None, Bool, ap, sym, subst, ◌∙◌, append_assoc, append-nil, refl}
use Rattle.std.specs.Prelude.{Result, Ok, Err, OnOk, OnErr, is_some, ◌≢◌}
use Rattle.plane_words.specs.Causes.{Rose, RoseBy, HasCause}
use Rattle.plane_words.specs.Growth.{Grows, GrowsByFront}
use Rattle.kern_model.specs.CallOrder.{after_calls}
use Rattle.kern_model.specs.Kernel.{Records}
use Rattle.uci_text.specs.declared.line.Line.{Line}
use Rattle.net_rules.specs.Moment.{Moment}
use Rattle.net_settle.specs.Outside.{Outside}
use Rattle.step_net.specs.Effects.{Effects, joined, Leaves}
use Rattle.step_net.specs.Moved.{Moved as NetMoved, Telling, finished, asking, once_if, failed_events}
use Rattle.step_net.specs.Taken.{telling_in}
use Rattle.step_net.specs.Finished.{IsFinished, IsCutShort}
use Rattle.step_net.proofs.GrowthLemmas.{grows_none, records_none}
use Rattle.plane_step.specs.declared.stop.Stop.{Stop}
use Rattle.plane_step.specs.declared.stop.Stop.TheVariants as stop
use Rattle.plane_step.specs.Faults.{DiskFaults, DiskRose}
use Rattle.rpc_objects.specs.Kept as objects
use Rattle.rpc_objects.specs.Cut.{Cut, IsCutSo}
use Rattle.bus_lines.specs.declared.handled.Handled.{Handled}
use Rattle.bus_lines.specs.World.{World}
use Rattle.bus_lines.specs.Did.{Did}
use Rattle.bus_lines.specs.Ended.{Seen, IsDone}
use Rattle.script_lines.specs.Lines.{line_of}
use Rattle.plane_step.specs.Does.{LineDoes}
use Rattle.plane_step.specs.Passed.{LineCuts, LineFails}
use Rattle.plane_step.specs.Moved.{Luck, moved, telling_of, writing}
use Rattle.plane_step.specs.Done.{Ends}
use Rattle.plane_step.specs.Ran.{Words, CarriedOut, CutShort, PacesBehind, IsCutWith, Tells, TellsHalt, LineEnds, memory_line, disk_line}
use Rattle.plane_step.proofs.ScriptLemmas.{leaves_both}

abbrev pub with_net : World → Moment → World
with_net world net = record world { net = net }

abbrev pub words_of : Seen → Words
words_of seen = record { before = seen.supply; after = seen.supply_now }

-- what is seen of the kernel is what is seen outside
pub record IsSeenAs (seen : Seen) (before after : Outside) : Type 0 where
  pub asked : seen.kernel.asked ≡ before.asked
  pub asked_now : seen.kernel.asked_now ≡ after.asked
  pub faults : seen.kernel.faults ≡ before.kernel_faults
  pub faults_now : seen.kernel.faults_now ≡ after.kernel_faults
  pub calls : after.calls ≡ before.calls

-- the output alone has changed
pub record IsWrittenTo (before after : Outside) : Type 0 where
  pub asked : after.asked ≡ before.asked
  pub calls : after.calls ≡ before.calls
  pub objects : after.objects ≡ before.objects
  pub faults : after.kernel_faults ≡ before.kernel_faults

-- this was written behind something, and the output's count did not fall
leaves_written : (text : List ℕ) (before after : Outside) → IsWrittenTo before after
    → Grows before.out after.out text → before.out_faults ≤ after.out_faults
    → Leaves (writing text) 0 before after
leaves_written text before after same grown later = record {
  asked = subst (λ x. Records before.asked x []) (sym same.asked) (records_none before.asked);
  logged = subst (λ x. Grows before.calls x []) (sym same.calls) (grows_none before.calls);
  written = grown;
  cause = let e = same.faults in omega arith;
  later = later;
}

-- a line was acted on, with the outside before it and behind it
module _ (line : Line) (world mid : World) (seen : Seen) (told : Handled)
    (done : IsDone (LineDoes world line) mid seen told) (before between : Outside)
    (same : IsSeenAs seen before between) (out : between.out ≡ before.out)
    (out_faults : between.out_faults ≡ before.out_faults)
    (held : between.objects ≡ mid.net.held) where
  abbrev did : Did
  did = done.did

  abbrev luck_with : Option ℕ → Luck
  luck_with failed_after =
      record { words = done.words; events = done.failures; failed_after = failed_after }

  leaves_acted : Leaves (asking did.asked) (failed_events done.failures) before between
  leaves_acted = record {
    asked = subst (λ x. Records before.asked x did.asked) same.asked_now
        (subst (λ x. Records x seen.kernel.asked_now did.asked) same.asked done.is.asked.record_of);
    logged = subst (λ x. Grows before.calls x []) (sym same.calls) (grows_none before.calls);
    written = subst (λ x. Grows before.out x []) (sym out) (grows_none before.out);
    cause = subst (λ x. RoseBy (failed_events done.failures) before.kernel_faults x) same.faults_now
        (subst (λ x. RoseBy (failed_events done.failures) x seen.kernel.faults_now) same.faults
        done.is.asked.cause);
    later = let e = out_faults in omega arith;
  }

  telling_is : telling_in told.told ≡ telling_of did
  telling_is i = record { shown = done.is.shown i; refusal = done.is.refusal i }

  held_is : between.objects ≡ did.world.net.held
  held_is = held ∙ ap (λ (w : World). w.net.held) done.is.world

  end_is : (failed_after : Option ℕ) → finished mid.net (telling_in told.told) failed_after
      ≡ finished did.world.net (telling_of did) failed_after
  end_is failed_after =
      ap (λ (w : World). finished w.net (telling_in told.told) failed_after) done.is.world
      ∙ ap (λ (t : Telling). finished did.world.net t failed_after) telling_is

  -- behind its sends
  module _ (sent : Outside) (alone : IsWrittenTo between sent)
      (grown : Grows between.out sent.out told.sent) (later : between.out_faults ≤ sent.out_faults) where
    leaves_sent : Leaves (writing did.sent) 0 between sent
    leaves_sent = subst (λ text. Leaves (writing text) 0 between sent) done.is.sent
        (leaves_written told.sent between sent alone grown later)

    leaves_all : (effects : Effects) (failures : ℕ) (after : Outside) → Leaves effects failures sent after
        → Leaves (joined (asking did.asked) (joined (writing did.sent) effects))
        (failed_events done.failures + (0 + failures)) before after
    leaves_all effects failures after left =
        leaves_both (asking did.asked) (joined (writing did.sent) effects) (failed_events done.failures)
        (0 + failures) before between after leaves_acted
        (leaves_both (writing did.sent) effects 0 failures between sent after leaves_sent left)

    counted : (m n : ℕ) → m + (0 + n) ≡ m + n
    counted m n = omega arith

    -- it was settled and answered
    pub carried_out : (new : Moment) (after : Outside) (is_ok : Bool)
        → IsFinished mid.net new (telling_in told.told) sent after is_ok
        → CarriedOut line world (with_net mid new) (words_of seen) before after is_ok
    unfolding moved
    carried_out new after is_ok f =
        let end = end_is f.failed_after in
        let net : new ≡ (finished did.world.net (telling_of did) f.failed_after).net =
        f.next ∙ ap (λ (m : NetMoved). m.net) end in
        let failures = once_if (is_some f.failed_after) in
        record {
          luck = luck_with f.failed_after;
          did = did;
          does = done.does;
          next = λ i. with_net (done.is.world i) (net i);
          answer = f.answer ∙ ap (λ (m : NetMoved). m.is_ok) end;
          used = done.is.used;
          left = subst (λ n. Leaves (moved did f.failed_after).effects n before after)
              (counted (failed_events done.failures) failures)
              (leaves_all (finished did.world.net (telling_of did) f.failed_after).effects failures after
              (subst (λ (m : NetMoved). Leaves m.effects failures sent after) end f.left));
        }

    -- it was cut short by the output behind its sends
    pub cut_short : (new : Moment) (after : Outside)
        → IsCutShort mid.net (telling_in told.told) sent after
        → CutShort line world (with_net mid new) before after
    unfolding moved
    cut_short new after f =
        let end = end_is f.failed_after in
        let parts : (finished did.world.net (telling_of did) f.failed_after).effects
        ≡ joined f.left.front f.left.back =
        sym (ap (λ (m : NetMoved). m.effects) end) ∙ f.left.parts in
        let failures = once_if (is_some f.failed_after) in
        let front = f.left.front in
        let back = f.left.back in
        record {
          luck = luck_with f.failed_after;
          did = did;
          does = done.does;
          left = record {
            front = joined (asking did.asked) (joined (writing did.sent) front);
            back = back;
            parts = ap (λ (e : Effects). joined (asking did.asked) (joined (writing did.sent) e)) parts
                ∙ (λ i. record {
                  asked = sym (append_assoc did.asked front.asked back.asked) i;
                  calls = front.calls ++ back.calls;
                  text = sym (append_assoc did.sent front.text back.text) i;
                });
            left = subst (λ n. Leaves (joined (asking did.asked) (joined (writing did.sent) front)) n before after)
                (counted (failed_events done.failures) failures)
                (leaves_all front failures after f.left.left);
          };
          pace = PacesBehind.behind front.text refl f.pace;
          objects = f.objects ∙ ap (λ o. after_calls o front.calls) (alone.objects ∙ held_is);
          cause = risen before.out_faults between.out_faults sent.out_faults after.out_faults out_faults later f.cause;
          files = ap (λ (w : World). w.files) done.is.world;
        }
      where
        risen : (a b c d : ℕ) → b ≡ a → b ≤ c → Rose c d → Rose a d
        risen a b c d same first rose = omega (arith, same, first, rose)

  -- it was cut short within its sends
  pub cut_in_sends : (sent : Outside) → IsWrittenTo between sent → told.sent ≢ []
      → GrowsByFront between.out sent.out told.sent → Rose between.out_faults sent.out_faults
      → between.out_faults ≤ sent.out_faults → CutShort line world mid before sent
  unfolding moved
  cut_in_sends sent alone some grown rose later =
      let end = (finished did.world.net (telling_of did) None).effects in
      let front = grown.front in
      let all : did.sent ≡ front ++ grown.back = sym done.is.sent ∙ grown.parts in
      record {
        luck = luck_with None;
        did = did;
        does = done.does;
        left = record {
          front = record { asked = did.asked; calls = []; text = front };
          back = record { asked = end.asked; calls = end.calls; text = grown.back ++ end.text };
          parts = λ i. record {
            asked = did.asked ++ end.asked;
            calls = end.calls;
            text = (ap (λ t. t ++ end.text) all ∙ append_assoc front grown.back end.text) i;
          };
          left = record {
            asked = subst (λ x. Records before.asked x did.asked) (sym alone.asked) leaves_acted.asked;
            logged = subst (λ x. Grows before.calls x []) (sym (alone.calls ∙ same.calls)) (grows_none before.calls);
            written = subst (λ x. Grows x sent.out front) out grown.grows;
            cause = let c = leaves_acted.cause in let e = alone.faults in omega arith;
            later = let e = out_faults in omega arith;
          };
        };
        pace = PacesBehind.within (λ none. some (done.is.sent ∙ none)) grown.back all refl;
        objects = alone.objects ∙ held_is;
        cause = let e = out_faults in let r = rose in omega arith;
        files = ap (λ (w : World). w.files) done.is.world;
      }

-- a line was not carried out, and a text was told, or a front of it
module _ (now : World) (seen : Seen) (before after : Outside) (text : List ℕ)
    (same : IsSeenAs seen before after) (held : after.objects ≡ now.net.held)
    (tells : Tells text before.out after.out before.out_faults after.out_faults) where
  abbrev written : GrowsByFront before.out after.out text
  written = tells.written

  pub cut_with : (Cuts : Cut → Type 0) (cut : Cut) → Cuts cut → IsCutSo cut now.net seen.kernel
      → IsCutWith text Cuts before after
  cut_with Cuts cut cuts left = record {
    cut = cut;
    cuts = cuts;
    text = written.front;
    written = record { back = written.back; parts = written.parts; whole = tells.whole };
    left = record {
      asked = subst (λ x. Records before.asked x cut.asked) same.asked_now
          (subst (λ x. Records x seen.kernel.asked_now cut.asked) same.asked left.asked);
      logged = subst (λ x. Grows before.calls x []) (sym same.calls) (grows_none before.calls);
      written = written.grows;
      cause = subst (λ x. RoseBy cut.failures before.kernel_faults x) same.faults_now
          (subst (λ x. RoseBy cut.failures x seen.kernel.faults_now) same.faults left.cause);
      later = tells.later;
    };
    objects = held ∙ left.held;
  }

-- a script ends in a line that was not carried out
pub halted : (line : Line) (world now : World) (seen : Seen) (disks : DiskFaults)
    (before after : Outside) (why : Stop) → IsSeenAs seen before after
    → after.objects ≡ now.net.held → (objects.DiskRose seen.disks → DiskRose disks)
    → Ends world line.line (line_of line.words) now seen (Err why)
    → TellsHalt why before.out after.out before.out_faults after.out_faults
    → LineEnds line world now disks (words_of seen) before after (Err why)
halted line world now seen disks before after stop.WriteFailed same held rose ends tells = absurd ends
halted line world now seen disks before after stop.DiskFailed same held rose ends tells = record {
  cause = rose ends.cause;
  tells = cut_with now seen before after disk_line same held tells (LineFails world line) ends.cut ends.cuts
      ends.left;
}
halted line world now seen disks before after stop.Memory same held rose ends tells = record {
  lacks = cut_with now seen before after memory_line same held tells (LineCuts world line) ends.cut ends.cuts
      ends.left;
  files = ends.files;
}

-- a line was written, or a front of it
pub tells_line : {X E : Type 0} (line : List ℕ) (old new : Option (List ℕ)) (faults faults_now : ℕ)
    (result : Result X E) → OnOk result (Grows old new line) → OnErr result (GrowsByFront old new line)
    → HasCause faults faults_now result → Tells line old new faults faults_now
tells_line line old new faults faults_now (Ok done) whole part cause = record {
  written = record { front = line; back = []; parts = sym (append-nil line); grows = whole };
  later = cause.later;
  whole = λ calm. refl;
}
tells_line line old new faults faults_now (Err failed) whole part cause = record {
  written = part;
  later = cause.later;
  whole = λ calm. let rose = cause.failed in absurd (omega (arith, calm, rose));
}
