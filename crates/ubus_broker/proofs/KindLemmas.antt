-- Messages by their kinds.
use Rattle.std.proofs.Common.{ℕ, ◌≡◌, ◌==◌, List, [], ◌∷◌, Option, Some, None, Bool, false, refl, ap, ◌∙◌, arith}
use Rattle.std.proofs.lemmas.Bool.Decides.{nat_tests}
use Rattle.std.specs.Prelude.{◌≢◌, if◌then◌else◌}
use Rattle.ubus_frames.specs.declared.frame.Frame.{Frame}
use Rattle.ubus_table.specs.Table.{Table, Call}
use Rattle.ubus_table.specs.declared.rows.Object.{Object}
use Rattle.ubus_table.specs.Refusal.{Step, says}
use Rattle.ubus_table.specs.Asked.{told_of}
use Rattle.ubus_table.specs.Calls.{data_passed}
use Rattle.ubus_send.specs.Fits.{fits}
use Rattle.ubus_requests.proofs.PlanLemmas.{passed}

-- the step of a message of this kind
abbrev pub by_kind : ℕ → Step → Step → Step → Step → Step → Step → Step → Step → Step → Step → Step → Step
by_kind kind status answer ping lookup invoke add remove subscribe unsubscribe notify other =
    if kind == 1 then status else (if kind == 2 then answer else (if kind == 3 then ping
    else (if kind == 4 then lookup else (if kind == 5 then invoke
    else (if kind == 6 then add else (if kind == 7 then remove else (if kind == 8 then subscribe else (if kind == 9 then unsubscribe else (if kind == 10 then notify else other)))))))))

differs : (kind n : ℕ) → kind ≢ n → (kind == n) ≡ false
differs kind n h = grind (arith, nat_tests, h)

-- the step of a message of no such kind
pub by_other : (kind : ℕ) (status answer ping lookup invoke add remove subscribe unsubscribe notify other : Step) → kind ≢ 1 → kind ≢ 2 → kind ≢ 3 → kind ≢ 4 → kind ≢ 5 → kind ≢ 6 → kind ≢ 7 → kind ≢ 8 → kind ≢ 9 → kind ≢ 10
    → by_kind kind status answer ping lookup invoke add remove subscribe unsubscribe notify other ≡ other
by_other kind status answer ping lookup invoke add remove subscribe unsubscribe notify other h1 h2 h3 h4 h5 h6 h7 h8 h9 h10 =
    passed status (differs kind 1 h1)
    ∙ (passed answer (differs kind 2 h2)
    ∙ (passed ping (differs kind 3 h3)
    ∙ (passed lookup (differs kind 4 h4)
    ∙ (passed invoke (differs kind 5 h5)
    ∙ (passed add (differs kind 6 h6)
    ∙ (passed remove (differs kind 7 h7)
    ∙ (passed subscribe (differs kind 8 h8)
    ∙ (passed unsubscribe (differs kind 9 h9)
    ∙ passed notify (differs kind 10 h10)))))))))

-- a DATA changes nothing
pub data_quiet : (table : Table) (frame : Frame) (call : Option Call) → data_passed fits table frame call ≡ says table (data_passed fits table frame call).sent
data_quiet table frame None = refl
data_quiet table frame (Some call) = refl

-- nor does a LOOKUP
pub told_quiet : (table : Table) (client : ℕ) (request : Frame) (objects : List Object) → told_of fits table client request objects ≡ says table (told_of fits table client request objects).sent
told_quiet table client request [] = refl
told_quiet table client request (object ∷ objects) = refl
