-- Lines that are carried out, and how a run ends by them.
use Rattle.std.proofs.Common.{arith, ℕ, zero, suc, ◌≡◌, ◌≤◌, inl, inr, Bool, true, false, cond, List, [], Option, Some, None, refl, ap, sym, subst, ◌∙◌}
use Rattle.std.specs.Prelude.{◌≢◌, Err, nat_lt}
use Rattle.std.proofs.lemmas.Bool.Decides.{nat_tests}
use Rattle.plane_words.specs.Causes.{Rose}
use Rattle.plane_words.specs.Growth.{Grows, GrowsByFront}
use Rattle.kern_model.specs.Kernel.{Records}
use Rattle.kern_model.specs.ObjectOrder.{Objects}
use Rattle.kern_calls.specs.Due.{due_count}
use Rattle.kern_calls.proofs.KeptLemmas.{same_if_none_due, none_due_if_same}
use Rattle.uci_text.specs.declared.line.Line.{Line}
use Rattle.uci_tool.specs.Ends.{Stream}
use Rattle.net_rules.specs.Moment.{want_of, devices_of}
use Rattle.step_net.specs.Effects.{Leaves}
use Rattle.step_net.specs.Finished.{HoldsOrFailed}
use Rattle.step_net.proofs.GrowthLemmas.{grows_none, records_none}
use Rattle.plane_step.specs.declared.stop.Stop.{Stop}
use Rattle.plane_step.specs.declared.stop.Stop.TheVariants as stop
use Rattle.bus_lines.specs.World.{World}
use Rattle.plane_outside.specs.Supply.{Supply, Uses}
use Rattle.plane_step.specs.Moved.{Moved}
use Rattle.plane_step.specs.Ran.{Ran, ScriptEnds}
use Rattle.plane_run.specs.declared.run_end.RunEnd.{RunEnd}
use Rattle.plane_run.specs.declared.run_end.RunEnd.TheVariants as end
use Rattle.plane_run.specs.declared.script.Script.TheVariants.{Lines, Bad}
use Rattle.plane_run.specs.Script.{HasRead, carried_out, refused, answered, bad_answer}
use Rattle.plane_run.specs.Run.{Stage, Holds, HasEnded, WasCut, in_answer, HasLacked, IsDone, IsRefused, IsDue, GoesOn, IsKernelFailed}
use Rattle.plane_run.specs.Parts.{end_of, end_of_stop, LinesEnded, LinesEnd, ReadRefuses, AnswersBad}

-- ---- how many objects are due

one_is_due : (due : ℕ) → nat_lt 0 (suc due) ≡ true
one_is_due due = grind (arith, nat_tests)

-- an ending by what is due
by_due : (P : RunEnd → Type 0) (is_ok : Bool) (due : ℕ) (held wanted : Objects)
    → due ≡ due_count held wanted
    → ((left : ℕ) → left ≡ due_count held wanted → (held ≡ wanted → ⊥) → P (end.KernelFailed left))
    → (held ≡ wanted → P (cond is_ok end.Done end.Refused)) → P (end_of is_ok due)
by_due P is_ok zero held wanted is some none = none (same_if_none_due held wanted (sym is))
by_due P is_ok (suc due) held wanted is some none =
    subst (λ b. P (cond b (end.KernelFailed (suc due)) (cond is_ok end.Done end.Refused)))
    (sym (one_is_due due))
    (some (suc due) is (λ same. let zero_due = none_due_if_same held wanted same in let e = is in omega (arith, zero_due, e)))

-- ---- random words

-- none were used up
pub uses_none : (supply : Supply) → Uses supply [] supply
uses_none None = refl
uses_none (Some words) = (words, refl, λ k. refl)

-- ---- lines

-- the lines ran to their end
pub lines_ended : (start : World) (lines : List Line) (stage : Stage) (after : Supply) (now : World)
    (is_ok : Bool) (due : ℕ)
    → Ran start lines now (record { before = stage.words; after = after }) stage.between stage.after
    is_ok
    → stage.after.objects ≡ now.net.held → stage.after.devices ≡ devices_of now.net.inputs
    → Holds stage now.files → due ≡ due_count now.net.held (want_of now.net.inputs)
    → LinesEnd start lines stage (end_of is_ok due)
lines_ended start lines stage after now is_ok due ran objects devices held is =
    by_due (LinesEnd start lines stage) is_ok due now.net.held (want_of now.net.inputs) is
    (λ left count some. ended is_ok ran (IsDue left) (
      subst (λ (w : World). due_count w.net.held (want_of w.net.inputs) ≡ left) ran.next (sym count),
      λ settled. some (subst (λ (w : World). w.net.held ≡ want_of w.net.inputs) (sym ran.next) settled),
    ))
    (λ same. by_ok is_ok ran same)
  where
    ended : (b : Bool) (r : Ran start lines now (record { before = stage.words; after = after }) stage.between stage.after b)
        (Ends : Moved → Type 0) → Ends r.end → LinesEnded start lines stage Ends
    ended b r Ends ends = record {
      lucks = r.lucks;
      last = r.end;
      folds = r.folds;
      words = after;
      used = r.used;
      left = r.left;
      objects = objects ∙ ap (λ (w : World). w.net.held) r.next;
      devices = devices ∙ ap (λ (w : World). devices_of w.net.inputs) r.next;
      held = subst (λ (w : World). Holds stage w.files) r.next held;
      ends = ends;
    }

    by_ok : (b : Bool) (r : Ran start lines now (record { before = stage.words; after = after }) stage.between stage.after b)
        → now.net.held ≡ want_of now.net.inputs
        → LinesEnd start lines stage (cond b end.Done end.Refused)
    by_ok true r same = ended true r IsDone
        (sym r.answer, subst (λ (w : World). w.net.held ≡ want_of w.net.inputs) r.next same)
    by_ok false r same = ended false r IsRefused
        (sym r.answer, subst (λ (w : World). w.net.held ≡ want_of w.net.inputs) r.next same)

-- the lines stopped in one of them
pub lines_stopped : (start : World) (lines : List Line) (stage : Stage) (after : Supply) (now : World)
    (why : Stop)
    → ScriptEnds start lines now stage.disks (record { before = stage.words; after = after })
    stage.images stage.between stage.after (Err why)
    → (why ≢ stop.DiskFailed → Holds stage now.files)
    → LinesEnd start lines stage (end_of_stop why)
lines_stopped start lines stage after now stop.WriteFailed ends held = (now, ends, held (λ e. cc e))
lines_stopped start lines stage after now stop.DiskFailed ends held = ends
lines_stopped start lines stage after now stop.Memory ends held = (now, ends, held (λ e. cc e))

-- only objects that are due tell that the kernel failed
pub due_ended : (is_ok : Bool) (due : ℕ) (held wanted objects : Objects) (faults faults_now : ℕ)
    → due ≡ due_count held wanted → objects ≡ held → HoldsOrFailed objects wanted faults faults_now
    → IsKernelFailed (end_of is_ok due) → Rose faults faults_now
due_ended is_ok due held wanted objects faults faults_now is same (inr rose) failed = rose
due_ended is_ok zero held wanted objects faults faults_now is same (inl holds) failed = by_ok is_ok failed
  where
    by_ok : (b : Bool) → IsKernelFailed (cond b end.Done end.Refused) → Rose faults faults_now
    by_ok true h = absurd h
    by_ok false h = absurd h
due_ended is_ok (suc due) held wanted objects faults faults_now is same (inl holds) failed =
    let zero_due = none_due_if_same held wanted (sym same ∙ holds) in
    let e = is in
    absurd (omega (arith, zero_due, e))

pub due_stopped : (why : Stop) (faults faults_now : ℕ) → IsKernelFailed (end_of_stop why)
    → Rose faults faults_now
due_stopped stop.WriteFailed faults faults_now h = absurd h
due_stopped stop.DiskFailed faults faults_now h = absurd h
due_stopped stop.Memory faults faults_now h = absurd h

-- ---- the run behind the opening

ended_goes_on : (start : World) (stage : Stage) (lines : List Line) (Ends : Moved → Type 0)
    → HasRead stage.input (Lines lines) → LinesEnded start lines stage Ends
    → HasEnded start stage Ends
ended_goes_on start stage lines Ends read h = record {
  script = Lines lines;
  read = read;
  lucks = h.lucks;
  last = h.last;
  gives = carried_out lines h.lucks h.last h.folds;
  words = h.words;
  used = h.used;
  left = h.left;
  objects = h.objects;
  devices = h.devices;
  held = h.held;
  ends = h.ends;
}

-- the lines of a script that was read
pub lines_go_on : (start : World) (stage : Stage) (lines : List Line) (ending : RunEnd)
    → HasRead stage.input (Lines lines) → LinesEnd start lines stage ending
    → GoesOn start stage ending
lines_go_on start stage lines end.Done read h = ended_goes_on start stage lines IsDone read h
lines_go_on start stage lines end.Refused read h = ended_goes_on start stage lines IsRefused read h
lines_go_on start stage lines (end.KernelFailed left) read h =
    ended_goes_on start stage lines (IsDue left) read h
lines_go_on start stage lines end.WriteFailed read h =
    WasCut.in_line h.0 (record { lines = lines; read = read; stops = h.1 }) h.2
lines_go_on start stage lines end.DiskFailed read h =
    record { lines = lines; read = read; stops = h }
lines_go_on start stage lines end.OutOfMemory read h =
    HasLacked.in_line h.0 (record { lines = lines; read = read; stops = h.1 }) h.2
lines_go_on start stage lines end.ReadFailed read h = absurd h
lines_go_on start stage lines (end.Unreadable row_package fault) read h = absurd h
lines_go_on start stage lines (end.TooLong limit) read h = absurd h
lines_go_on start stage lines (end.BadSnapshot byte) read h = absurd h

-- no script was read
pub unread_goes_on : (start : World) (stage : Stage) (why : RunEnd) → ReadRefuses stage.input why
    → stage.after ≡ stage.between → Holds stage start.files → GoesOn start stage why
unread_goes_on start stage end.ReadFailed h same held = (h, record { same = same; held = held })
unread_goes_on start stage (end.TooLong limit) h same held =
    (h.0, h.1, record { same = same; held = held })
unread_goes_on start stage end.OutOfMemory h same held =
    HasLacked.in_front (record { same = same; held = held })
unread_goes_on start stage end.Done h same held = absurd h
unread_goes_on start stage end.Refused h same held = absurd h
unread_goes_on start stage end.WriteFailed h same held = absurd h
unread_goes_on start stage end.DiskFailed h same held = absurd h
unread_goes_on start stage (end.KernelFailed left) h same held = absurd h
unread_goes_on start stage (end.Unreadable row_package fault) h same held = absurd h
unread_goes_on start stage (end.BadSnapshot byte) h same held = absurd h

-- the kernel stands still while the script is read
pub due_unread : (input : Stream) (why : RunEnd) (faults faults_now : ℕ) → ReadRefuses input why
    → IsKernelFailed why → Rose faults faults_now
due_unread input (end.KernelFailed left) faults faults_now h failed = absurd h
due_unread input end.Done faults faults_now h failed = absurd failed
due_unread input end.Refused faults faults_now h failed = absurd failed
due_unread input end.ReadFailed faults faults_now h failed = absurd failed
due_unread input end.WriteFailed faults faults_now h failed = absurd failed
due_unread input end.DiskFailed faults faults_now h failed = absurd failed
due_unread input end.OutOfMemory faults faults_now h failed = absurd failed
due_unread input (end.Unreadable row_package fault) faults faults_now h failed = absurd failed
due_unread input (end.TooLong limit) faults faults_now h failed = absurd failed
due_unread input (end.BadSnapshot byte) faults faults_now h failed = absurd failed

-- ---- a script that has no lines

module _ (start : World) (stage : Stage) (line : ℕ) (read : HasRead stage.input (Bad line))
    (held : Holds stage start.files) (net : stage.between.objects ≡ start.net.held)
    (present : stage.between.devices ≡ devices_of start.net.inputs)
    (devices : stage.after.devices ≡ stage.between.devices)
    (asked : stage.after.asked ≡ stage.between.asked) (calls : stage.after.calls ≡ stage.between.calls)
    (objects : stage.after.objects ≡ stage.between.objects)
    (faults : stage.after.kernel_faults ≡ stage.between.kernel_faults)
    (later : stage.between.out_faults ≤ stage.after.out_faults) where
  sees : (text : List ℕ) → Grows stage.between.out stage.after.out text
      → Leaves (record { asked = []; calls = []; text = text }) 0 stage.between stage.after
  sees text written = record {
    asked = subst (λ x. Records stage.between.asked x []) (sym asked) (records_none stage.between.asked);
    logged = subst (λ x. Grows stage.between.calls x []) (sym calls) (grows_none stage.between.calls);
    written = written;
    cause = let f = faults in omega arith;
    later = later;
  }

  ended : (Ends : Moved → Type 0) → Grows stage.between.out stage.after.out (bad_answer line)
      → Ends (answered start line) → HasEnded start stage Ends
  ended Ends written ends = record {
    script = Bad line;
    read = read;
    lucks = [];
    last = answered start line;
    gives = refused line;
    words = stage.words;
    used = uses_none stage.words;
    left = sees (bad_answer line) written;
    objects = objects ∙ net;
    devices = devices ∙ present;
    held = held;
    ends = ends;
  }

  pub bad_ended : (due : ℕ) → Grows stage.between.out stage.after.out (bad_answer line)
      → due ≡ due_count start.net.held (want_of start.net.inputs)
      → GoesOn start stage (end_of false due)
  bad_ended due written is =
      by_due (GoesOn start stage) false due start.net.held (want_of start.net.inputs) is
      (λ left count some. ended (IsDue left) written (sym count, some))
      (λ same. ended IsRefused written (refl, same))

  pub bad_cut : GrowsByFront stage.between.out stage.after.out (bad_answer line)
      → Rose stage.between.out_faults stage.after.out_faults → GoesOn start stage end.WriteFailed
  bad_cut written rose = in_answer line read
      (record {
        front = record { asked = []; calls = []; text = written.front };
        back = record { asked = []; calls = []; text = written.back };
        parts = λ i. record { asked = []; calls = []; text = written.parts i };
        left = sees written.front written.grows;
      })
      objects rose held

pub bad_goes_on : (X : Type 0) (start : World) (stage : Stage) (line : ℕ) (why : RunEnd)
    → HasRead stage.input (Bad line) → Holds stage start.files
    → stage.between.objects ≡ start.net.held
    → stage.between.devices ≡ devices_of start.net.inputs
    → stage.after.devices ≡ stage.between.devices
    → stage.after.asked ≡ stage.between.asked → stage.after.calls ≡ stage.between.calls
    → stage.after.objects ≡ stage.between.objects
    → stage.after.kernel_faults ≡ stage.between.kernel_faults
    → (stage.after.out ≡ stage.between.out → stage.after.out_faults ≡ stage.between.out_faults
    → stage.after ≡ stage.between)
    → AnswersBad {X = X} line stage.between.out stage.after.out stage.between.out_faults
    stage.after.out_faults (Err why)
    → GoesOn start stage why
bad_goes_on X start stage line end.WriteFailed read held net present devices asked calls objects faults same h =
    bad_cut start stage line read held net present devices asked calls objects faults h.2 h.0 h.1
bad_goes_on X start stage line end.OutOfMemory read held net present devices asked calls objects faults same h =
    HasLacked.in_front (record { same = same h.0 h.1; held = held })
bad_goes_on X start stage line end.Done read held net present devices asked calls objects faults same h = absurd h
bad_goes_on X start stage line end.Refused read held net present devices asked calls objects faults same h = absurd h
bad_goes_on X start stage line end.ReadFailed read held net present devices asked calls objects faults same h = absurd h
bad_goes_on X start stage line end.DiskFailed read held net present devices asked calls objects faults same h = absurd h
bad_goes_on X start stage line (end.KernelFailed left) read held net present devices asked calls objects faults same h = absurd h
bad_goes_on X start stage line (end.Unreadable row_package fault) read held net present devices asked calls objects faults same h = absurd h
bad_goes_on X start stage line (end.TooLong limit) read held net present devices asked calls objects faults same h = absurd h
bad_goes_on X start stage line (end.BadSnapshot byte) read held net present devices asked calls objects faults same h = absurd h

pub due_bad : (X : Type 0) (line : ℕ) (old new : Option (List ℕ)) (a b : ℕ) (why : RunEnd)
    (faults faults_now : ℕ) → AnswersBad {X = X} line old new a b (Err why) → IsKernelFailed why
    → Rose faults faults_now
due_bad X line old new a b (end.KernelFailed left) faults faults_now h failed = absurd h
due_bad X line old new a b end.Done faults faults_now h failed = absurd failed
due_bad X line old new a b end.Refused faults faults_now h failed = absurd failed
due_bad X line old new a b end.ReadFailed faults faults_now h failed = absurd failed
due_bad X line old new a b end.WriteFailed faults faults_now h failed = absurd failed
due_bad X line old new a b end.DiskFailed faults faults_now h failed = absurd failed
due_bad X line old new a b end.OutOfMemory faults faults_now h failed = absurd failed
due_bad X line old new a b (end.Unreadable row_package fault) faults faults_now h failed = absurd failed
due_bad X line old new a b (end.TooLong limit) faults faults_now h failed = absurd failed
due_bad X line old new a b (end.BadSnapshot byte) faults faults_now h failed = absurd failed
