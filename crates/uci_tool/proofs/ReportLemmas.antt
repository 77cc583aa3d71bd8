-- Reports of what was printed and changed.
use Rattle.std.proofs.Common.{ℕ, ◌≡◌, ◌≢◌, inl, Bool, false, List, [], Result, Ok, Err, refl, ap, sym, subst, ◌∙◌}
use Rattle.plane_disk.specs.View.{View}
use Rattle.uci_store.specs.declared.store.Store.{Store}
use Rattle.uci_store.specs.Store.{has_failed}
use Rattle.uci_cli.specs.declared.refusal.Refusal.{Refusal}
use Rattle.uci_tool.specs.declared.report.Report.{Report}
use Rattle.uci_tool.specs.declared.stop.Stop.{Stop}
use Rattle.uci_tool.specs.declared.stop.Stop.TheVariants.{Refused, DiskFailed, Memory}
use Rattle.uci_tool.specs.declared.texts.Printed.{Printed}
use Rattle.uci_tool.specs.Folder.{Folder}
use Rattle.uci_tool.specs.Line.{refused, of_printed, of_folder, of_effect}
use Rattle.uci_tool.specs.Passes.{one_step}
use Rattle.uci_tool.specs.Staging.{Effect}
use Rattle.uci_tool.specs.Texts.{alone}
use Rattle.uci_tool.specs.Answers.{Answers, Changes, Effects, Carries, Prints, ReportsText, ReportsChange, ReportsEffect, Closes, Writes, carried_as, report_of, text_alone, refusal_alone}

-- ---- what is reported

-- a command that printed
pub printed_carries : (result : Result Report Stop) (printed : Printed) (folder : Folder) → Prints result printed → Carries result (λ report. of_printed folder printed ≡ carried_as report folder) folder (one_step folder folder)
printed_carries (Ok report) printed folder is = ap (λ (z : Report). carried_as z folder) (sym is)
printed_carries (Err (Refused refusal)) printed folder is = is
printed_carries (Err DiskFailed) printed folder is = tt
printed_carries (Err Memory) printed folder is = inl refl

-- the text of one package
pub text_prints : (text : Result (List ℕ) Stop) (result : Result Report Stop) (expected : Result (List ℕ) Refusal) → Answers text expected → ReportsText text result → Prints result (alone expected)
text_prints (Ok text) result expected is reports = subst (λ (z : Result (List ℕ) Refusal). Prints result (alone z)) (sym is) reports
text_prints (Err (Refused refusal)) result expected is reports = subst (λ (z : Result (List ℕ) Refusal). Prints result (alone z)) (sym is) reports
text_prints (Err DiskFailed) result expected is reports = absurd is
text_prints (Err Memory) result expected is reports = subst (λ (z : Result Report Stop). Prints z (alone expected)) (sym reports) tt

refused_carries : (result : Result Report Stop) (refusal : Refusal) (folder after : Folder) → Prints result (refusal_alone refusal)
    → Carries result (λ report. refused folder refusal ≡ carried_as report folder) folder (one_step folder after)
refused_carries (Ok report) refusal folder after is = ap (λ (z : Report). carried_as z folder) (sym is)
refused_carries (Err (Refused other)) refusal folder after is = is
refused_carries (Err DiskFailed) refusal folder after is = tt
refused_carries (Err Memory) refusal folder after is = inl refl

abbrev pub ChangesTo : Result Report Stop → Folder → Folder → Result Folder Refusal → Type 0
ChangesTo result old new expected = Carries result (λ report. of_folder old expected ≡ carried_as report new) new (one_step old (of_folder old expected).after)

-- a command that changes a folder as a whole or not at all
pub change_carries : {X : Type 0} (changed : Result X Stop) (result : Result Report Stop) (old new : Folder) (expected : Result Folder Refusal) → Changes changed old new expected → ReportsChange changed result
    → ChangesTo result old new expected
change_carries (Ok value) result old new expected is reports =
    subst (λ (z : Result Folder Refusal). ChangesTo result old new z) (sym is) (subst (λ (z : Result Report Stop). ChangesTo z old new (Ok new)) (sym reports) refl)
change_carries (Err (Refused refusal)) result old new expected is reports =
    subst (λ (z : Result Folder Refusal). ChangesTo result old new z) (sym is.0) (subst (λ (z : Folder). ChangesTo result old z (Err refusal)) (sym is.1) (refused_carries result refusal old old reports))
change_carries (Err DiskFailed) result old new expected is reports = subst (λ (z : Result Report Stop). ChangesTo z old new expected) (sym reports) tt
change_carries (Err Memory) result old new expected is reports = subst (λ (z : Result Report Stop). ChangesTo z old new expected) (sym reports) (inl is)

abbrev pub AffectsTo : Result Report Stop → Folder → Folder → Result Effect Refusal → Type 0
AffectsTo result old new expected = Carries result (λ report. of_effect old expected ≡ carried_as report new) new (one_step old (of_effect old expected).after)

-- one that prints, too
pub effect_carries : (effect : Result (List ℕ) Stop) (result : Result Report Stop) (old new : Folder) (expected : Result Effect Refusal) → Effects effect old new expected → ReportsEffect effect result → AffectsTo result old new expected
effect_carries (Ok text) result old new expected is reports =
    subst (λ (z : Result Effect Refusal). AffectsTo result old new z) (sym is) (subst (λ (z : Result Report Stop). AffectsTo z old new (Ok (record { output = text; after = new }))) (sym reports) refl)
effect_carries (Err (Refused refusal)) result old new expected is reports =
    subst (λ (z : Result Effect Refusal). AffectsTo result old new z) (sym is.0) (subst (λ (z : Folder). AffectsTo result old z (Err refusal)) (sym is.1) (refused_carries result refusal old old reports))
effect_carries (Err DiskFailed) result old new expected is reports = subst (λ (z : Result Report Stop). AffectsTo z old new expected) (sym reports) tt
effect_carries (Err Memory) result old new expected is reports = subst (λ (z : Result Report Stop). AffectsTo z old new expected) (sym reports) (inl is)

-- ---- a report stops as what it reports

-- one stops on a disk exactly where the other does
pub record StopsAlike {X Y : Type 0} (first : Result X Stop) (second : Result Y Stop) : Type 0 where
  pub forth : first ≡ Err DiskFailed → second ≡ Err DiskFailed
  pub back : second ≡ Err DiskFailed → first ≡ Err DiskFailed

pub prints_stop : (result : Result Report Stop) (printed : Printed) → Prints result printed → result ≢ Err DiskFailed
prints_stop (Ok report) printed is = λ e. cc
prints_stop (Err (Refused refusal)) printed is = absurd is
prints_stop (Err DiskFailed) printed is = absurd is
prints_stop (Err Memory) printed is = λ e. cc

pub change_stops : {X : Type 0} (changed : Result X Stop) (result : Result Report Stop) → ReportsChange changed result → StopsAlike changed result
change_stops (Ok value) result reports = record { forth = λ e. cc; back = λ e. absurd (let f : ◌≡◌ {A = Result Report Stop} (Ok (report_of (text_alone []))) (Err DiskFailed) = sym reports ∙ e in cc) }
change_stops (Err (Refused refusal)) result reports = record { forth = λ e. cc; back = λ e. absurd (prints_stop result (refusal_alone refusal) reports e) }
change_stops (Err DiskFailed) result reports = record { forth = λ e. reports; back = λ e. refl }
change_stops (Err Memory) result reports = record { forth = λ e. cc; back = λ e. absurd (let f : ◌≡◌ {A = Result Report Stop} (Err Memory) (Err DiskFailed) = sym reports ∙ e in cc) }

pub effect_stops : (effect : Result (List ℕ) Stop) (result : Result Report Stop) → ReportsEffect effect result → StopsAlike effect result
effect_stops (Ok text) result reports = record { forth = λ e. cc; back = λ e. absurd (let f : ◌≡◌ {A = Result Report Stop} (Ok (report_of (text_alone text))) (Err DiskFailed) = sym reports ∙ e in cc) }
effect_stops (Err (Refused refusal)) result reports = record { forth = λ e. cc; back = λ e. absurd (prints_stop result (refusal_alone refusal) reports e) }
effect_stops (Err DiskFailed) result reports = record { forth = λ e. reports; back = λ e. refl }
effect_stops (Err Memory) result reports = record { forth = λ e. cc; back = λ e. absurd (let f : ◌≡◌ {A = Result Report Stop} (Err Memory) (Err DiskFailed) = sym reports ∙ e in cc) }

closes_alike : {X Y : Type 0} (first : Result X Stop) (second : Result Y Stop) (failed : Bool) → StopsAlike first second → Closes first failed → Closes second failed
closes_alike {X} {Y} first second failed alike closes = go second alike
  where
    open_one : (r : Result X Stop) → r ≢ Err DiskFailed → Closes r failed → failed ≡ false
    open_one (Ok value) no' h = h
    open_one (Err (Refused refusal)) no' h = h
    open_one (Err DiskFailed) no' h = absurd (no' refl)
    open_one (Err Memory) no' h = h

    go : (r : Result Y Stop) → StopsAlike first r → Closes r failed
    go (Ok value) a = open_one first (λ e. let f : ◌≡◌ {A = Result Y Stop} (Ok value) (Err DiskFailed) = a.forth e in cc) closes
    go (Err (Refused refusal)) a = open_one first (λ e. let f : ◌≡◌ {A = Result Y Stop} (Err (Refused refusal)) (Err DiskFailed) = a.forth e in cc) closes
    go (Err DiskFailed) a = subst (λ (z : Result X Stop). Closes z failed) (a.back refl) closes
    go (Err Memory) a = open_one first (λ e. let f : ◌≡◌ {A = Result Y Stop} (Err Memory) (Err DiskFailed) = a.forth e in cc) closes

-- what a call leaves is what its report leaves
pub writes_alike : {X Y : Type 0} (first : Result X Stop) (second : Result Y Stop) (old new : Store) (a b c d : View) → StopsAlike first second → Writes first old new a b c d → Writes second old new a b c d
writes_alike first second old new a b c d alike writes = record {
  files = writes.files;
  staged = writes.staged;
  names = writes.names;
  same = writes.same;
  follows = writes.follows;
  closes = closes_alike first second (has_failed new) alike writes.closes;
  cause = λ e. writes.cause (alike.back e);
}
