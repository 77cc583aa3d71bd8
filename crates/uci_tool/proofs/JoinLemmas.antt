-- Calls that follow one another.
use Rattle.std.proofs.Common.{ℕ, suc, ◌≡◌, ◌≢◌, ◌≤◌, ◌<◌, ◌+◌, ◌⊎◌, inl, inr, List, [], ◌∷◌, ◌++◌, length, drop, slice_index_or, add-one, drop-cons, Option, Some, None, Result, Ok, Err, refl, ap, sym, subst, ◌∙◌, arith}
use Rattle.std.proofs.lemmas.List.{drop_all, append-nil}
use Rattle.plane_words.specs.Causes.{Rose}
use Rattle.plane_disk.specs.View.{View}
use Rattle.snap_disk.proofs.LoadLemmas.{same_self, same_join}
use Rattle.uci_staged.proofs.FillLemmas.{follows_same, follows_join}
use Rattle.uci_store.specs.declared.store.Store.{Store}
use Rattle.uci_store.specs.Store.{names_of}
use Rattle.uci_text.specs.declared.line.Line.{Line}
use Rattle.uci_cli.specs.declared.options.Options.{Options}
use Rattle.uci_cli.specs.declared.refusal.Refusal.{Refusal}
use Rattle.uci_tool.specs.declared.report.Report.{Report}
use Rattle.uci_tool.specs.declared.stop.Stop.{Stop}
use Rattle.uci_tool.specs.declared.stop.Stop.TheVariants.{Refused, DiskFailed, Memory}
use Rattle.uci_tool.specs.Folder.{Folder, folder_of}
use Rattle.uci_tool.specs.Commit.{Changed, commit_package, commit_each}
use Rattle.uci_tool.specs.Line.{Carried, first_refusal, then_done, line_done, lines_done}
use Rattle.uci_tool.specs.Passes.{commit_passes, line_passes, lines_passes}
use Rattle.uci_tool.specs.Answers.{Changes, Carries, IsAmong, Writes, IsOpen, carried_as, ended_by}
use Rattle.uci_tool.proofs.CommitLemmas.{commit_step, commit_ends, among_step, at_front}
use Rattle.uci_tool.proofs.LineLemmas.{line_step, among_front, among_behind}
use Rattle.uci_tool.proofs.ReportLemmas.{StopsAlike, writes_alike}
use Rattle.uci_tool.proofs.CarryLemmas.{line_end}

changed_from : Option Refusal → Folder → Changed
changed_from refusal after = record { refusal = refusal; after = after }

rose_from : (old mid new : ℕ) → old ≤ mid → Rose mid new → Rose old new
rose_from old mid new h rose = omega arith

rose_to : (old mid new : ℕ) → Rose old mid → mid ≤ new → Rose old new
rose_to old mid new rose h = omega arith

-- a store that is open after calls that were done
pub open_after : {X : Type 0} (value : X) (old new : Store) (a b c d : View) → Writes {X = X} (Ok value) old new a b c d → IsOpen new b d
open_after value old new a b c d writes = record { files = writes.files; staged = writes.staged; ready = writes.closes }

-- nothing was done yet
pub writes_none : (store : Store) (files staged : View) → IsOpen store files staged → Writes {X = Unit {0}} (Ok (tt {0})) store store files files staged staged
writes_none store files staged open' = record {
  files = open'.files;
  staged = open'.staged;
  names = refl;
  same = same_self files;
  follows = follows_same staged;
  closes = open'.ready;
  cause = λ e. cc;
}

-- a call that is cut short behind those that were done, not by a disk
pub writes_cut : {X Y : Type 0} (value : X) (result : Result Y Stop) (old new : Store) (a b c d : View) → result ≢ Err DiskFailed → Writes {X = X} (Ok value) old new a b c d → Writes {X = Y} result old new a b c d
writes_cut {X} {Y} value result old new a b c d no' writes = writes_alike (Ok value) result old new a b c d (record { forth = λ h. cc; back = λ h. absurd (no' h) }) writes

-- a call behind those that were done
pub writes_join : {X Y : Type 0} (value : X) (result : Result Y Stop) (old mid new : Store) (a b c d e f : View) → Writes {X = X} (Ok value) old mid a b d e → Writes {X = Y} result mid new b c e f → Writes {X = Y} result old new a c d f
writes_join value result old mid new a b c d e f first second = record {
  files = second.files;
  staged = second.staged;
  names = second.names ∙ first.names;
  same = same_join a b c first.same second.same;
  follows = follows_join d e f first.follows second.follows;
  closes = second.closes;
  cause = λ is. by (second.cause is);
}
  where
    by : Rose b.faults c.faults ⊎ Rose e.faults f.faults → Rose a.faults c.faults ⊎ Rose d.faults f.faults
    by (inl rose) = inl (rose_from a.faults b.faults c.faults first.same.later rose)
    by (inr rose) = inr (rose_from d.faults e.faults f.faults first.follows.later rose)

-- what a loop over packages has done: those before were committed, and the others are left
pub record CommitsSoFar (old now : Store) (a b c d : View) (place : ℕ) : Type 0 where
  pub writes : Writes {X = Unit {0}} (Ok (tt {0})) old now a b c d
  pub left : commit_each (folder_of old) (names_of old) ≡ commit_each (folder_of now) (drop place (names_of old))
  pub among : (found : Folder) → IsAmong found (commit_passes (folder_of now) (drop place (names_of old))) → IsAmong found (commit_passes (folder_of old) (names_of old))

pub commits_none : (store : Store) (files staged : View) → IsOpen store files staged → CommitsSoFar store store files files staged staged 0
commits_none store files staged open' = record { writes = writes_none store files staged open'; left = refl; among = λ found h. h }

pub from_here : (names : List (List ℕ)) (place : ℕ) (name : List ℕ) → place < length names → name ≡ slice_index_or names place name → drop place names ≡ name ∷ drop (place + 1) names
from_here names place name inside is = rw add-one (drop-cons names place name inside ∙ ap (λ y. y ∷ drop (suc place) names) (sym is))

-- the next package is committed
pub commits_more : (old now next : Store) (a b e c d f : View) (place : ℕ) (name : List ℕ) (value : Unit {0}) → CommitsSoFar old now a b c d place → place < length (names_of old) → name ≡ slice_index_or (names_of old) place name
    → commit_package (folder_of now) name ≡ Ok (folder_of next) → Writes {X = Unit {0}} (Ok value) now next b e d f → CommitsSoFar old next a e c f (place + 1)
commits_more old now next a b e c d f place name value so inside is done writes = record {
  writes = writes_join (tt {0}) (Ok (tt {0})) old now next a b e c d f so.writes (writes_alike (Ok value) (Ok (tt {0})) now next b e d f (record { forth = λ h. cc; back = λ h. cc }) writes);
  left = so.left ∙ ap (λ (z : List (List ℕ)). commit_each (folder_of now) z) here ∙ commit_step (folder_of now) (folder_of next) name rest done;
  among = λ found h. so.among found (subst (λ (z : List (List ℕ)). IsAmong found (commit_passes (folder_of now) z)) (sym here) (among_step (folder_of now) (folder_of next) found name rest done h));
}
  where
    rest : List (List ℕ)
    rest = drop (place + 1) (names_of old)

    here : drop place (names_of old) ≡ name ∷ drop (place + 1) (names_of old)
    here = from_here (names_of old) place name inside is

-- or refused, which ends them
pub commits_end : (old now next : Store) (a b c d : View) (place : ℕ) (name : List ℕ) (refusal : Refusal) → CommitsSoFar old now a b c d place → place < length (names_of old) → name ≡ slice_index_or (names_of old) place name
    → commit_package (folder_of now) name ≡ Err refusal → folder_of next ≡ folder_of now → commit_each (folder_of old) (names_of old) ≡ record { refusal = Some refusal; after = folder_of next }
unfolding changed_from
commits_end old now next a b c d place name refusal so inside is refused kept =
    so.left
    ∙ ap (λ (z : List (List ℕ)). commit_each (folder_of now) z) (from_here (names_of old) place name inside is)
    ∙ commit_ends (folder_of now) refusal name (drop (place + 1) (names_of old)) refused
    ∙ ap (λ (z : Folder). changed_from (Some refusal) z) (sym kept)

-- all were committed
pub commits_all : (old now : Store) (a b c d : View) (place : ℕ) → CommitsSoFar old now a b c d place → length (names_of old) ≤ place → commit_each (folder_of old) (names_of old) ≡ record { refusal = None; after = folder_of now }
commits_all old now a b c d place so end = so.left ∙ ap (λ (z : List (List ℕ)). commit_each (folder_of now) z) (drop_all place (names_of old) end)

-- a loop that is cut short leaves a folder that is passed through
pub commits_cut : (old now next : Store) (a b c d : View) (place : ℕ) → CommitsSoFar old now a b c d place → folder_of next ≡ folder_of now → IsAmong (folder_of next) (commit_passes (folder_of old) (names_of old))
commits_cut old now next a b c d place so kept = so.among (folder_of next) (subst (λ (z : Folder). IsAmong z (commit_passes (folder_of now) (drop place (names_of old)))) (sym kept) (at_front (folder_of now) (drop place (names_of old))))

-- a commit that was stopped ends the loop
pub commits_stop : (old now next : Store) (a b c d : View) (place : ℕ) (name : List ℕ) (end : Stop) → CommitsSoFar old now a b c d place → place < length (names_of old) → name ≡ slice_index_or (names_of old) place name
    → Changes {X = Unit {0}} (Err end) (folder_of now) (folder_of next) (commit_package (folder_of now) name)
    → Carries (ended_by end) (λ refusal. commit_each (folder_of old) (names_of old) ≡ record { refusal = refusal; after = folder_of next }) (folder_of next) (commit_passes (folder_of old) (names_of old))
commits_stop old now next a b c d place name (Refused refusal) so inside is h = commits_end old now next a b c d place name refusal so inside is h.0 h.1
commits_stop old now next a b c d place name DiskFailed so inside is h = tt
commits_stop old now next a b c d place name Memory so inside is h = commits_cut old now next a b c d place so h

ended_alike : (end : Stop) → StopsAlike {X = Unit {0}} (Err end) (ended_by end)
ended_alike (Refused refusal) = record { forth = λ h. cc; back = λ h. cc }
ended_alike DiskFailed = record { forth = λ h. refl; back = λ h. refl }
ended_alike Memory = record { forth = λ h. cc; back = λ h. cc }

pub commits_leave : (old now next : Store) (a b e c d f : View) (place : ℕ) (end : Stop) → CommitsSoFar old now a b c d place → Writes {X = Unit {0}} (Err end) now next b e d f → Writes (ended_by end) old next a e c f
commits_leave old now next a b e c d f place end so writes = writes_alike (Err end) (ended_by end) old next a e c f (ended_alike end) (writes_join (tt {0}) (Err end) old now next a b e c d f so.writes writes)

-- the names stay, and the next one is that of the first store
pub name_of_old : (old now : Store) (a b c d : View) (place : ℕ) (name : List ℕ) → CommitsSoFar old now a b c d place → name ≡ slice_index_or (names_of now) place name → name ≡ slice_index_or (names_of old) place name
name_of_old old now a b c d place name so is = subst (λ (z : List (List ℕ)). name ≡ slice_index_or z place name) so.writes.names is

-- ---- lines

carried_from : List ℕ → List ℕ → Option Refusal → Folder → Carried
carried_from output told refusal after = record { output = output; told = told; refusal = refusal; after = after }

-- what a loop over lines has done: those before were carried out, and the others are left
pub record LinesSoFar (options : Options) (old now : Store) (a b c d : View) (lines : List Line) (place : ℕ) (output told : List ℕ) (refusal : Option Refusal) : Type 0 where
  pub writes : Writes {X = Unit {0}} (Ok (tt {0})) old now a b c d
  pub left : then_done (record { output = output; told = told; refusal = refusal; after = folder_of now }) (lines_done options (folder_of now) (drop place lines)) ≡ lines_done options (folder_of old) lines
  pub among : (found : Folder) → IsAmong found (lines_passes options (folder_of now) (drop place lines)) → IsAmong found (lines_passes options (folder_of old) lines)

pub lines_none : (options : Options) (store : Store) (files staged : View) (lines : List Line) → IsOpen store files staged → LinesSoFar options store store files files staged staged lines 0 [] [] None
lines_none options store files staged lines open' = record { writes = writes_none store files staged open'; left = refl; among = λ found h. h }

line_here : (lines : List Line) (place : ℕ) (line : Line) → place < length lines → line ≡ slice_index_or lines place line → drop place lines ≡ line ∷ drop (place + 1) lines
line_here lines place line inside is = rw add-one (drop-cons lines place line inside ∙ ap (λ y. y ∷ drop (suc place) lines) (sym is))

behind_line : (options : Options) (folder next found : Folder) (line : Line) (rest : List Line) → (line_done options folder line.words).after ≡ next → IsAmong found (lines_passes options next rest)
    → IsAmong found (lines_passes options folder (line ∷ rest))
behind_line options folder next found line rest is h = among_behind found (line_passes options folder line.words) (lines_passes options (line_done options folder line.words).after rest)
    (subst (λ (z : Folder). IsAmong found (lines_passes options z rest)) (sym is) h)

-- the next line is carried out
pub lines_more : (options : Options) (old now next : Store) (a b e c d f : View) (lines : List Line) (place : ℕ) (line : Line) (report : Report) (output told more_output more_told : List ℕ) (refusal other : Option Refusal)
    → LinesSoFar options old now a b c d lines place output told refusal → place < length lines → line ≡ slice_index_or lines place line
    → line_done options (folder_of now) line.words ≡ carried_as report (folder_of next) → Writes {X = Report} (Ok report) now next b e d f
    → more_output ≡ output ++ report.output → more_told ≡ told ++ report.told → other ≡ first_refusal refusal report.refusal → LinesSoFar options old next a e c f lines (place + 1) more_output more_told other
unfolding carried_from
lines_more options old now next a b e c d f lines place line report output told more_output more_told refusal other so inside is done writes outputs tells first = record {
  writes = writes_join (tt {0}) (Ok (tt {0})) old now next a b e c d f so.writes (writes_alike (Ok report) (Ok (tt {0})) now next b e d f (record { forth = λ h. cc; back = λ h. cc }) writes);
  left = ap (λ (z : List ℕ). then_done (carried_from z more_told other (folder_of next)) behind) outputs
      ∙ ap (λ (z : List ℕ). then_done (carried_from (output ++ report.output) z other (folder_of next)) behind) tells
      ∙ ap (λ (z : Option Refusal). then_done (carried_from (output ++ report.output) (told ++ report.told) z (folder_of next)) behind) first
      ∙ line_step options (carried_from output told refusal (folder_of now)) (carried_as report (folder_of next)) (folder_of now) line rest done
      ∙ ap (λ (z : List Line). then_done (carried_from output told refusal (folder_of now)) (lines_done options (folder_of now) z)) (sym here)
      ∙ so.left;
  among = λ found h. so.among found (subst (λ (z : List Line). IsAmong found (lines_passes options (folder_of now) z)) (sym here)
      (behind_line options (folder_of now) (folder_of next) found line rest (ap (λ (z : Carried). z.after) done) h));
}
  where
    rest : List Line
    rest = drop (place + 1) lines

    behind : Carried
    behind = lines_done options (folder_of next) (drop (place + 1) lines)

    here : drop place lines ≡ line ∷ drop (place + 1) lines
    here = line_here lines place line inside is

-- a folder that a line passes through
pub lines_among : (options : Options) (old now : Store) (a b c d : View) (lines : List Line) (place : ℕ) (line : Line) (output told : List ℕ) (refusal : Option Refusal) (found : Folder)
    → LinesSoFar options old now a b c d lines place output told refusal → place < length lines → line ≡ slice_index_or lines place line → IsAmong found (line_passes options (folder_of now) line.words)
    → IsAmong found (lines_passes options (folder_of old) lines)
lines_among options old now a b c d lines place line output told refusal found so inside is h =
    so.among found (subst (λ (z : List Line). IsAmong found (lines_passes options (folder_of now) z)) (sym (line_here lines place line inside is))
    (among_front found (line_passes options (folder_of now) line.words) (lines_passes options (line_done options (folder_of now) line.words).after (drop (place + 1) lines)) h))

-- the one that it leaves
pub lines_left : (options : Options) (old now next : Store) (a b c d : View) (lines : List Line) (place : ℕ) (line : Line) (report : Report) (output told : List ℕ) (refusal : Option Refusal)
    → LinesSoFar options old now a b c d lines place output told refusal → place < length lines → line ≡ slice_index_or lines place line → line_done options (folder_of now) line.words ≡ carried_as report (folder_of next)
    → IsAmong (folder_of next) (lines_passes options (folder_of old) lines)
lines_left options old now next a b c d lines place line report output told refusal so inside is done =
    lines_among options old now a b c d lines place line output told refusal (folder_of next) so inside is
    (subst (λ (z : Folder). IsAmong z (line_passes options (folder_of now) line.words)) (ap (λ (z : Carried). z.after) done) (line_end options (folder_of now) line.words))

-- and where the line was cut short, so are the lines
pub lines_stop : (options : Options) (old now next : Store) (a b c d : View) (lines : List Line) (place : ℕ) (line : Line) (end : Stop) (output told : List ℕ) (refusal : Option Refusal)
    → LinesSoFar options old now a b c d lines place output told refusal → place < length lines → line ≡ slice_index_or lines place line
    → Carries {A = Report} (Err end) (λ report. line_done options (folder_of now) line.words ≡ carried_as report (folder_of next)) (folder_of next) (line_passes options (folder_of now) line.words)
    → Carries {A = Report} (Err end) (λ report. lines_done options (folder_of old) lines ≡ carried_as report (folder_of next)) (folder_of next) (lines_passes options (folder_of old) lines)
lines_stop options old now next a b c d lines place line (Refused why) output told refusal so inside is h = h
lines_stop options old now next a b c d lines place line DiskFailed output told refusal so inside is h = tt
lines_stop options old now next a b c d lines place line Memory output told refusal so inside is h = lines_among options old now a b c d lines place line output told refusal (folder_of next) so inside is h

first_alone : (refusal : Option Refusal) → first_refusal refusal None ≡ refusal
first_alone None = refl
first_alone (Some refusal) = refl

-- all were carried out
pub lines_all : (options : Options) (old now : Store) (a b c d : View) (lines : List Line) (place : ℕ) (output told : List ℕ) (refusal : Option Refusal) (report : Report)
    → LinesSoFar options old now a b c d lines place output told refusal → length lines ≤ place → report ≡ record { output = output; told = told; refusal = refusal } → lines_done options (folder_of old) lines
    ≡ carried_as report (folder_of now)
unfolding carried_from
lines_all options old now a b c d lines place output told refusal report so end is =
    sym so.left
    ∙ ap (λ (z : List Line). then_done (carried_from output told refusal (folder_of now)) (lines_done options (folder_of now) z)) (drop_all place lines end)
    ∙ ap (λ (z : List ℕ). carried_from z (told ++ []) (first_refusal refusal None) (folder_of now)) (append-nil output)
    ∙ ap (λ (z : List ℕ). carried_from output z (first_refusal refusal None) (folder_of now)) (append-nil told)
    ∙ ap (λ (z : Option Refusal). carried_from output told z (folder_of now)) (first_alone refusal)
    ∙ ap (λ (z : Report). carried_as z (folder_of now)) (sym is)
