-- Answers that follow one another.
use Rattle.std.proofs.Common.{ℕ, ◌≡◌, List, Option, Result, Ok, Err, refl, ap, sym, subst}
use Rattle.std.specs.Prelude.{IfOk}
use Rattle.std.specs.Option.{ok_or}
use Rattle.uci_cli.specs.declared.refusal.Refusal.{Refusal}
use Rattle.uci_cli.specs.declared.refusal.Refusal.TheVariants.{NotFound}
use Rattle.uci_tool.specs.declared.stop.Stop.{Stop}
use Rattle.uci_tool.specs.declared.stop.Stop.TheVariants.{Refused, DiskFailed, Memory}
use Rattle.uci_tool.specs.Folder.{Folder}
use Rattle.uci_tool.specs.Seen.{if_ok}
use Rattle.uci_tool.specs.Staging.{Effect}
use Rattle.uci_tool.specs.Answers.{Answers, Changes, Effects, IsFound}

-- behind a step that was done the next one decides
pub goes_on : {A B : Type 0} (first : Result A Refusal) (value : A) (next : A → Result B Refusal) (result : Result B Stop) → first ≡ Ok value → Answers result (next value) → Answers result (if_ok first next)
goes_on {A} {B} first value next result is answers = subst (λ (z : Result A Refusal). Answers result (if_ok z next)) (sym is) answers

-- and one that was stopped stops all
pub stops : {A B : Type 0} (first : Result A Refusal) (stop : Stop) (next : A → Result B Refusal) → Answers {A = A} (Err stop) first → Answers {A = B} (Err stop) (if_ok first next)
stops {A} {B} first (Refused refusal) next is = ap (λ (z : Result A Refusal). if_ok z next) is
stops first DiskFailed next is = absurd is
stops first Memory next is = tt

pub changes_go_on : {A X : Type 0} (first : Result A Refusal) (value : A) (next : A → Result Folder Refusal) (result : Result X Stop) (old new : Folder) → first ≡ Ok value → Changes result old new (next value)
    → Changes result old new (if_ok first next)
changes_go_on {A} {X} first value next result old new is changes = subst (λ (z : Result A Refusal). Changes result old new (if_ok z next)) (sym is) changes

pub changes_stop : {A : Type 0} (first : Result A Refusal) (stop : Stop) (next : A → Result Folder Refusal) (folder : Folder) → Answers {A = A} (Err stop) first → Changes {X = Unit {0}} (Err stop) folder folder (if_ok first next)
changes_stop {A} first (Refused refusal) next folder is = (ap (λ (z : Result A Refusal). if_ok z next) is, refl)
changes_stop first DiskFailed next folder is = absurd is
changes_stop first Memory next folder is = refl

pub effects_go_on : {A : Type 0} (first : Result A Refusal) (value : A) (next : A → Result Effect Refusal) (result : Result (List ℕ) Stop) (old new : Folder) → first ≡ Ok value → Effects result old new (next value)
    → Effects result old new (if_ok first next)
effects_go_on {A} first value next result old new is effects = subst (λ (z : Result A Refusal). Effects result old new (if_ok z next)) (sym is) effects

pub effects_stop : {A : Type 0} (first : Result A Refusal) (stop : Stop) (next : A → Result Effect Refusal) (folder : Folder) → Answers {A = A} (Err stop) first → Effects (Err stop) folder folder (if_ok first next)
effects_stop {A} first (Refused refusal) next folder is = (ap (λ (z : Result A Refusal). if_ok z next) is, refl)
effects_stop first DiskFailed next folder is = absurd is
effects_stop first Memory next folder is = refl

-- a change behind which a text is given
pub effect_of : (first : Result Folder Refusal) (text told : List ℕ) (old new : Folder) → first ≡ Ok new → told ≡ text → Effects (Ok told) old new (if_ok first (λ after. Ok (record { output = text; after = after })))
effect_of first text told old new is same = effects_go_on first new (λ after. Ok (record { output = text; after = after })) (Ok told) old new is (let both : text ≡ told = sym same in cc)

pub effect_stopped : (first : Result Folder Refusal) (stop : Stop) (text : List ℕ) (old new : Folder) → Changes {X = Unit {0}} (Err stop) old new first
    → Effects (Err stop) old new (if_ok first (λ after. Ok (record { output = text; after = after })))
effect_stopped first (Refused refusal) text old new is = (ap (λ (z : Result Folder Refusal). if_ok z (λ after. Ok (record { output = text; after = after }))) is.0, is.1)
effect_stopped first DiskFailed text old new is = tt
effect_stopped first Memory text old new is = is

-- what was looked up
pub found_is : {A X : Type 0} (looked : Result (Option A) X) (result : Result A Stop) (expected : Option A) → IfOk looked (λ found. found ≡ expected) → IsFound looked result → Answers result (ok_or expected NotFound)
found_is {A} {X} (Ok found) result expected is answers = subst (λ (z : Option A). Answers result (ok_or z NotFound)) is answers
found_is {A} (Err error) result expected is answers = subst (λ (z : Result A Stop). Answers z (ok_or expected NotFound)) (sym answers) tt
