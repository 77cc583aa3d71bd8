-- Scripts that are carried out.
use Rattle.std.proofs.Common.{arith, ℕ, ◌≡◌, ◌+◌, ◌≤◌, inl, inr, List, [], ◌∷◌, ◌++◌, Bool, true, length, refl, ap, sym, subst, ◌∙◌, append-nil}
use Rattle.std.specs.Prelude.{Err, ◌&&◌}
use Rattle.plane_words.specs.Causes.{Rose, RoseBy}
use Rattle.uci_text.specs.declared.line.Line.{Line}
use Rattle.kern_model.specs.ObjectOrder.{Objects}
use Rattle.net_settle.specs.Outside.{Outside}
use Rattle.step_net.specs.Finished.{HoldsOrFailed}
use Rattle.step_net.specs.Effects.{Effects, joined, Leaves}
use Rattle.step_net.proofs.GrowthLemmas.{grows_none, grows_more, records_none, records_more}
use Rattle.plane_step.specs.declared.stop.Stop.{Stop}
use Rattle.plane_step.specs.declared.stop.Stop.TheVariants as stop
use Rattle.plane_step.specs.Faults.{DiskRose}
use Rattle.bus_lines.specs.World.{World}
use Rattle.plane_outside.specs.Supply.{Supply}
use Rattle.plane_step.specs.Does.{LineDoes}
use Rattle.plane_step.specs.Moved.{Luck, moved, still, followed, failures, failures_of, Folds}
use Rattle.plane_step.specs.Ran.{CarriedOut, CutShort, LackedMemory, FailedOnDisk, Ran, StopsIn, LineEnds, ScriptEnds}
use Rattle.plane_step.proofs.WordLemmas.{uses_none, uses_join}

pub none_ran : (start : World) (supply : Supply) (now : Outside)
    → Ran start [] start (record { before = supply; after = supply }) now now true
none_ran start supply now = record {
  lucks = [];
  end = still start;
  folds = Folds.none;
  next = refl;
  answer = refl;
  used = uses_none supply;
  left = record {
    asked = records_none now.asked;
    logged = grows_none now.calls;
    written = grows_none now.out;
    cause = omega arith;
    later = omega arith;
  };
}

failures_more : (lucks : List Luck) (luck : Luck)
    → failures (lucks ++ luck ∷ []) ≡ failures lucks + failures_of luck
failures_more [] luck = omega arith
failures_more (first ∷ lucks) luck = let rest = failures_more lucks luck in omega arith

rose_both : (m n a b c : ℕ) → RoseBy m a b → RoseBy n b c → RoseBy (m + n) a c
rose_both m n a b c h g = omega (arith, h, g)

pub leaves_both : (a b : Effects) (m n : ℕ) (before between after : Outside)
    → Leaves a m before between → Leaves b n between after → Leaves (joined a b) (m + n) before after
leaves_both a b m n before between after p q = record {
  asked = records_more before.asked between.asked after.asked a.asked b.asked p.asked q.asked;
  logged = grows_more before.calls between.calls after.calls a.calls b.calls p.logged q.logged;
  written = grows_more before.out between.out after.out a.text b.text p.written q.written;
  cause = rose_both m n before.kernel_faults between.kernel_faults after.kernel_faults p.cause q.cause;
  later = let first = p.later in let second = q.later in omega arith;
}

pub ran_more : (start : World) (lines : List Line) (line : Line) (world now : World)
    (supply mid last : Supply) (before between after : Outside) (is_ok fine : Bool)
    → Ran start lines world (record { before = supply; after = mid }) before between is_ok
    → CarriedOut line world now (record { before = mid; after = last }) between after fine
    → Ran start (lines ++ line ∷ []) now (record { before = supply; after = last }) before after
    (is_ok && fine)
unfolding moved
ran_more start lines line world now supply mid last before between after is_ok fine ran c =
    let one = moved c.did c.luck.failed_after in
    record {
      lucks = ran.lucks ++ c.luck ∷ [];
      end = followed ran.end one;
      folds = Folds.more lines ran.lucks ran.end line c.luck c.did ran.folds
          (subst (λ (w : World). LineDoes w line c.luck.words c.luck.events c.did) ran.next c.does);
      next = c.next;
      answer = ap (λ b. b && fine) ran.answer ∙ ap (λ b. ran.end.is_ok && b) c.answer;
      used = uses_join supply ran.end.words mid c.did.words last ran.used c.used;
      left = subst (λ n. Leaves (joined ran.end.effects one.effects) n before after)
          (sym (failures_more ran.lucks c.luck))
          (leaves_both ran.end.effects one.effects (failures ran.lucks) (failures_of c.luck) before
          between after ran.left c.left);
    }

-- nothing is left
pub all_done : (lines done rest : List Line) → lines ≡ done ++ rest → length rest ≡ 0 → done ≡ lines
all_done lines done [] parts none = sym (parts ∙ append-nil done)
all_done lines done (line ∷ rest) parts none = absurd (omega arith)

-- a count that rose behind others rose
rose_after : (a b c : ℕ) → a ≤ b → Rose b c → Rose a c
rose_after a b c first rose = omega (arith, first, rose)

-- a disk that failed in a line failed in the script
disk_rose : (f s a b c d : ℕ) → f ≤ a → s ≤ c
    → DiskRose (record { files = a; files_now = b; staged = c; staged_now = d })
    → DiskRose (record { files = f; files_now = b; staged = s; staged_now = d })
disk_rose f s a b c d files staged (inl rose) = inl (rose_after f a b files rose)
disk_rose f s a b c d files staged (inr rose) = inr (rose_after s c d staged rose)

-- a script stops in a line
module _ (start : World) (lines done : List Line) (line : Line) (rest : List Line)
    (parts : lines ≡ done ++ line ∷ rest) (world now : World) (supply mid last : Supply)
    (before between after : Outside) (is_ok : Bool)
    (ran : Ran start done world (record { before = supply; after = mid }) before between is_ok)
    (Images : List Line → Type 0) (images : Images (done ++ line ∷ [])) where
  stops : (Stops : Line → World → Outside → Outside → Type 0) → Stops line world between after
      → StopsIn Stops Images start lines supply before after
  stops Stops is = record {
    done = done;
    line = line;
    rest = rest;
    parts = parts;
    world = world;
    is_ok = is_ok;
    words = mid;
    between = between;
    ran = ran;
    stops = is;
    images = images;
  }

  pub stops_in : (f s a b c d : ℕ) → f ≤ a → s ≤ c → (why : Stop)
      → LineEnds line world now (record { files = a; files_now = b; staged = c; staged_now = d })
      (record { before = mid; after = last }) between after (Err why)
      → ScriptEnds start lines now (record { files = f; files_now = b; staged = s; staged_now = d })
      (record { before = supply; after = last }) Images before after (Err why)
  stops_in f s a b c d files staged stop.WriteFailed ends =
      stops (λ l w m e. CutShort l w now m e) ends
  stops_in f s a b c d files staged stop.Memory ends =
      stops (λ l w m e. LackedMemory l w now m e) ends
  stops_in f s a b c d files staged stop.DiskFailed ends =
      stops (λ l w m e. FailedOnDisk l w (record { files = f; files_now = b; staged = s; staged_now = d }) m e)
      (record { cause = disk_rose f s a b c d files staged ends.cause; tells = ends.tells })

-- what is held is what is wanted, or the kernel failed, from an earlier moment on
pub due_more : (m a b c : ℕ) (objects wanted : Objects) → RoseBy m a b
    → HoldsOrFailed objects wanted b c → HoldsOrFailed objects wanted a c
due_more m a b c objects wanted first (inl holds) = inl holds
due_more m a b c objects wanted first (inr rose) = inr (omega (arith, first, rose))
