-- What the kernel was asked, one call behind another.
use Rattle.std.proofs.Common.{arith, ℕ, ◌≡◌, ◌+◌, List, [], ◌∷◌, ◌++◌, Option, Bool, false, refl, sym, subst}
use Rattle.plane_words.specs.Causes.{RoseBy}
use Rattle.kern_model.specs.declared.kernel.Asked.{Asked}
use Rattle.net_rules.specs.Moment.{Moment}
use Rattle.step_net.specs.Moved.{once_if, failed_events}
use Rattle.step_net.specs.Taken.{Telled, Asks}
use Rattle.step_net.proofs.GrowthLemmas.{records_none, records_more}
use Rattle.rpc_objects.specs.Cut.{Cut, IsCutSo, untouched}
use Rattle.bus_lines.specs.Ended.{AsksBy}

-- a kernel that is the same
abbrev pub same_kernel : Option (List Asked) → ℕ → Telled
same_kernel asked faults =
    record { asked = asked; asked_now = asked; faults = faults; faults_now = faults }

rose_none : (a : ℕ) → RoseBy 0 a a
rose_none a = omega arith

rose_once : (failed : Bool) (a b : ℕ) → RoseBy (once_if failed) a b → RoseBy (once_if failed + 0) a b
rose_once failed a b h = omega (arith, h)

rose_less : (n a b : ℕ) → RoseBy n a b → RoseBy 0 a b
rose_less n a b h = omega (arith, h)

rose_both : (m n a b c : ℕ) → RoseBy m a b → RoseBy n b c → RoseBy (m + n) a c
rose_both m n a b c h g = omega (arith, h, g)

-- nothing was asked
pub asks_none : (asked : Option (List Asked)) (faults : ℕ) → Asks [] false (same_kernel asked faults)
asks_none asked faults = record { asked = records_none asked; cause = rose_none faults }

pub nothing_asked : (asked : Option (List Asked)) (faults : ℕ) → AsksBy [] [] (same_kernel asked faults)
nothing_asked asked faults = record { record_of = records_none asked; cause = rose_none faults }

pub cut_nothing : (net : Moment) (asked : Option (List Asked)) (faults : ℕ)
    → IsCutSo (untouched net) net (same_kernel asked faults)
cut_nothing net asked faults =
    record { held = refl; asked = records_none asked; cause = rose_none faults }

-- one event
pub asks_once : (what : List Asked) (failed : Bool) (kernel : Telled) → Asks what failed kernel
    → AsksBy what (failed ∷ []) kernel
asks_once what failed kernel requests = record {
  record_of = requests.asked;
  cause = rose_once failed kernel.faults kernel.faults_now requests.cause;
}

-- nothing was asked, whatever is said of failures
pub cut_unasked : (before now : Moment) (failed : Bool) (kernel : Telled) → now.held ≡ before.held
    → Asks [] failed kernel → IsCutSo (untouched before) now kernel
cut_unasked before now failed kernel held requests = record {
  held = held;
  asked = requests.asked;
  cause = rose_less (once_if failed) kernel.faults kernel.faults_now requests.cause;
}

events_more : (some : List Bool) (failed : Bool)
    → failed_events (some ++ failed ∷ []) ≡ failed_events some + once_if failed
events_more [] failed = omega arith
events_more (one ∷ some) failed = let rest = events_more some failed in omega arith

-- one event behind others
module _ (asked between after : Option (List Asked)) (faults mid now : ℕ) where
  abbrev pub front : Telled
  front = record { asked = asked; asked_now = between; faults = faults; faults_now = mid }

  abbrev pub behind : Telled
  behind = record { asked = between; asked_now = after; faults = mid; faults_now = now }

  abbrev pub all : Telled
  all = record { asked = asked; asked_now = after; faults = faults; faults_now = now }

  pub asks_more : (what more : List Asked) (failures : List Bool) (failed : Bool)
      → AsksBy what failures front → Asks more failed behind
      → AsksBy (what ++ more) (failures ++ failed ∷ []) all
  asks_more what more failures failed p q = record {
    record_of = records_more asked between after what more p.record_of q.asked;
    cause = subst (λ n. RoseBy n faults now) (sym (events_more failures failed))
        (rose_both (failed_events failures) (once_if failed) faults mid now p.cause q.cause);
  }

  -- a cut behind what was done
  pub cut_more : (what : List Asked) (failures : List Bool) (cut : Cut) (net : Moment)
      → AsksBy what failures front → IsCutSo cut net behind
      → IsCutSo (record {
        held = cut.held;
        asked = what ++ cut.asked;
        failures = failed_events failures + cut.failures;
      }) net all
  cut_more what failures cut net p q = record {
    held = q.held;
    asked = records_more asked between after what cut.asked p.record_of q.asked;
    cause = rose_both (failed_events failures) cut.failures faults mid now p.cause q.cause;
  }
