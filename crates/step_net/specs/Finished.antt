-- What a settling and an answer left outside.
use Rattle.std.specs.Prelude.{ℕ, ◌≡◌, ◌≤◌, ◌⊎◌, List, [], ◌∷◌, ◌++◌, Bool, map, Option, Result, Ok, Err, is_some}
use Rattle.plane_words.specs.Causes.{Rose, RoseBy}
use Rattle.plane_words.specs.Growth.{Grows, GrowsByFront}
use Rattle.kern_model.specs.declared.object.Call.{Call}
use Rattle.kern_model.specs.Kernel.{Records}
use Rattle.kern_model.specs.ObjectOrder.{Objects}
use Rattle.kern_model.specs.CallOrder.{after_calls}
use Rattle.net_rules.specs.Moment.{Moment}
use Rattle.net_settle.specs.Outside.{Outside}
use Rattle.net_settle.specs.Settle.{lines_of, whole_line, done_call}
use Rattle.step_net.specs.Effects.{Leaves, LeavesInPart}
use Rattle.step_net.specs.Moved.{Telling, due, made, is_stopped, asked_in, settled, finished, opening, once_if}

-- a settling and an answer came to their end, with some luck
pub record IsFinished (net now : Moment) (telling : Telling) (before after : Outside) (is_ok : Bool)
    : Type 0 where
  pub failed_after : Option ℕ
  pub next : now ≡ (finished net telling failed_after).net
  pub answer : is_ok ≡ (finished net telling failed_after).is_ok
  pub left : Leaves (finished net telling failed_after).effects (once_if (is_some failed_after))
      before after

-- These calls were made, and these are left. The text has the line of each that was made, and
-- something behind them only where none is left. Or the line of the last is missing, in part or whole,
-- and nothing stands behind it.
pub data KeepsPace (calls left : List Call) (text : List ℕ) : Type 0 where
  behind : (shown : List ℕ) → text ≡ lines_of calls ++ shown → left ≡ []
      → KeepsPace calls left text
  within : (earlier : List Call) (last : Call) (front back : List ℕ)
      → calls ≡ earlier ++ last ∷ [] → whole_line last ≡ front ++ back
      → text ≡ lines_of earlier ++ front → KeepsPace calls left text

-- they were cut short by the output, with some luck
pub record IsCutShort (net : Moment) (telling : Telling) (before after : Outside) : Type 0 where
  pub failed_after : Option ℕ
  pub left : LeavesInPart (finished net telling failed_after).effects
      (once_if (is_some failed_after)) before after
  pub pace : KeepsPace left.front.calls left.back.calls left.front.text
  pub objects : after.objects ≡ after_calls before.objects left.front.calls
  pub cause : Rose before.out_faults after.out_faults

abbrev pub Finishes : {E : Type 0} → Moment → Moment → Telling → Outside → Outside → Result Bool E
    → Type 0
Finishes net now telling before after (Ok is_ok) = IsFinished net now telling before after is_ok
Finishes net now telling before after (Err failed) = IsCutShort net telling before after

-- a settling and what is shown behind it came to their end, with some luck
pub record IsOpened (net now : Moment) (text : List ℕ) (before after : Outside) : Type 0 where
  pub failed_after : Option ℕ
  pub next : now ≡ (opening net text failed_after).net
  pub left : Leaves (opening net text failed_after).effects (once_if (is_some failed_after))
      before after

-- they were cut short by the output, with some luck
pub record IsOpenedInPart (net : Moment) (text : List ℕ) (before after : Outside) : Type 0 where
  pub failed_after : Option ℕ
  pub left : LeavesInPart (opening net text failed_after).effects
      (once_if (is_some failed_after)) before after
  pub pace : KeepsPace left.front.calls left.back.calls left.front.text
  pub objects : after.objects ≡ after_calls before.objects left.front.calls
  pub cause : Rose before.out_faults after.out_faults

abbrev pub Opens : {X E : Type 0} → Moment → Moment → List ℕ → Outside → Outside → Result X E
    → Type 0
Opens net now text before after (Ok done) = IsOpened net now text before after
Opens net now text before after (Err failed) = IsOpenedInPart net text before after

-- a settling came to its end, or to a call that failed, with some luck
pub record IsSettled (net now : Moment) (before after : Outside) (stopped : Bool) : Type 0 where
  pub failed_after : Option ℕ
  pub stops : stopped ≡ is_stopped (due net) failed_after
  pub next : now ≡ settled net (made (due net) failed_after)
  pub asked : Records before.asked after.asked (asked_in (due net) failed_after)
  pub logged : Grows before.calls after.calls (made (due net) failed_after)
  pub objects : after.objects ≡ after_calls before.objects (made (due net) failed_after)
  pub written : Grows before.out after.out (lines_of (made (due net) failed_after))
  pub cause : RoseBy (once_if (is_some failed_after)) before.kernel_faults after.kernel_faults
  pub later : before.out_faults ≤ after.out_faults

-- it was cut short by the output
pub record IsSettledInPart (net : Moment) (before after : Outside) : Type 0 where
  pub calls : List Call
  pub not_made : List Call
  pub parts : due net ≡ calls ++ not_made
  pub asked : Records before.asked after.asked (map done_call calls)
  pub logged : Grows before.calls after.calls calls
  pub objects : after.objects ≡ after_calls before.objects calls
  pub written : GrowsByFront before.out after.out (lines_of (due net))
  pub pace : KeepsPace calls not_made written.front
  pub later : before.kernel_faults ≤ after.kernel_faults
  pub out_later : before.out_faults ≤ after.out_faults
  pub cause : Rose before.out_faults after.out_faults

abbrev pub Settles : {E : Type 0} → Moment → Moment → Outside → Outside → Result Bool E → Type 0
Settles net now before after (Ok stopped) = IsSettled net now before after stopped
Settles net now before after (Err failed) = IsSettledInPart net before after

-- the kernel holds what is wanted, or it failed
abbrev pub HoldsOrFailed : Objects → Objects → ℕ → ℕ → Type 0
HoldsOrFailed objects wanted faults faults_now = (objects ≡ wanted) ⊎ Rose faults faults_now
