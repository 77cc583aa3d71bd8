-- What stops within calls leave of the files.
use Rattle.std.proofs.Common.{ℕ, ◌≡◌, ◌<◌, ◌+◌, ◌⊎◌, inl, inr, Bool, true, false, cond, List, [], ◌∷◌, length, drop, slice_index_or, Option, Some, Result, Ok, Err, refl, ap, sym, subst, ◌∙◌}
use Rattle.plane_disk.specs.Files.{Files}
use Rattle.plane_disk.specs.View.{View}
use Rattle.snap_disk.specs.Images.{SameDisk}
use Rattle.snap_disk.specs.Opened.{State, OpensAs}
use Rattle.snap_disk.specs.Refusals.{IsGood}
use Rattle.snap_disk.proofs.Moments.{joins, widens}
use Rattle.uci_text.specs.declared.line.Line.{Line}
use Rattle.uci_tree.specs.declared.package.Package.{Package}
use Rattle.uci_tree.specs.declared.tree_error.TreeError.{TreeError}
use Rattle.uci_tree.specs.Reading.{Reads}
use Rattle.uci_cli.specs.declared.options.Options.{Options}
use Rattle.uci_cli.specs.declared.command.Command.{Command}
use Rattle.uci_cli.specs.declared.command.Command.TheVariants as command
use Rattle.uci_cli.specs.declared.words.Asked.{Asked}
use Rattle.uci_cli.specs.Words.{asked_of}
use Rattle.uci_store.specs.declared.store.Store.{Store}
use Rattle.uci_store.specs.Store.{names_of, snap_of, files_of}
use Rattle.uci_store.specs.Committing.{CommitsTo, ReplacesTo}
use Rattle.uci_store.specs.Stops.{OpensAsOne, StopLeaves}
use Rattle.uci_cli.specs.declared.refusal.Refusal.{Refusal}
use Rattle.uci_tool.specs.Folder.{Folder, folder_of}
use Rattle.uci_tool.specs.Seen.{if_ok, parsed}
use Rattle.uci_tool.specs.Commit.{written, commit_package}
use Rattle.uci_tool.specs.Line.{Carried}
use Rattle.uci_tool.specs.Import.{replaced, merge_done, import_done}
use Rattle.uci_tool.specs.Passes.{one_step, step_to, commit_passes, command_passes, line_passes, lines_passes, passes, asked_folders, uci_passes}
use Rattle.uci_tool.specs.Answers.{Writes, IsAmong}
use Rattle.uci_tool.specs.Ends.{Stream, IsInput}
use Rattle.uci_tool.specs.Stops.{OpensAmong, StopsAmong, StaysOrStops, CommandStops}
use Rattle.uci_tool.proofs.CommitLemmas.{at_front, among_step, printed_to}
use Rattle.uci_tool.proofs.WriteLemmas.{replaced_to}
use Rattle.uci_tool.proofs.JoinLemmas.{CommitsSoFar, LinesSoFar, from_here, lines_among}
use Rattle.uci_tool.proofs.CarryLemmas.{changed_same}
use Rattle.uci_tool.proofs.ReadingLemmas.{package_is}
use Rattle.uci_tool.proofs.RunLemmas.{by_words}

-- ---- folders among others

-- each folder of the first is one of the second
abbrev pub AreAmong : List Folder → List Folder → Type 0
AreAmong few many = (found : Folder) → IsAmong found few → IsAmong found many

one_opens : (names : List (List ℕ)) (folder : Folder) (folders : List Folder) (image : Files) → IsAmong folder folders → OpensAs names folder.files image → OpensAmong names folders image
one_opens names folder [] image h opens = absurd h
one_opens names folder (one ∷ others) image (inl e) opens = inl (subst (λ (z : Folder). OpensAs names z.files image) e opens)
one_opens names folder (one ∷ others) image (inr h) opens = inr (one_opens names folder others image h opens)

pub opens_more : (names : List (List ℕ)) (few many : List Folder) (image : Files) → AreAmong few many → OpensAmong names few image → OpensAmong names many image
opens_more names [] many image among opens = absurd opens
opens_more names (one ∷ others) many image among (inl opens) = one_opens names one many image (among one (inl refl)) opens
opens_more names (one ∷ others) many image among (inr opens) = opens_more names others many image (λ found h. among found (inr h)) opens

pub stops_more : (store : Store) (old new : View) (few many : List Folder) → AreAmong few many → StopsAmong store old new few → StopsAmong store old new many
stops_more store old new few many among stops good files seen = widens old new (OpensAmong old.names few) (OpensAmong old.names many) (stops good files seen) (λ image opens. opens_more old.names few many image among opens)

-- ---- one call

-- the folder that a step leads to
step_opens : (folder : Folder) (expected : Result Folder Refusal) (after : Folder) (names : List (List ℕ)) (image : Files) → expected ≡ Ok after → OpensAs names after.files image → OpensAmong names (step_to folder expected) image
step_opens folder expected after names image is opens = subst (λ (z : Result Folder Refusal). OpensAmong names (step_to folder z) image) (sym is) (inr (inl opens))

-- a call that leads to files leads to a folder of these files
pub step_stops : (store : Store) (Leads : State → Type 0) (expected : Result Folder Refusal) (old new : View) → ((after : State) → Leads after → (folder : Folder) × (expected ≡ Ok folder) × (after ≡ folder.files))
    → StopLeaves store old new Leads → StopsAmong store old new (step_to (folder_of store) expected)
step_stops store Leads expected old new leads stops good files seen = widens old new (OpensAsOne old.names (files_of store) Leads) (OpensAmong old.names (step_to (folder_of store) expected)) (stops good files seen) go
  where
    go : (image : Files) → OpensAsOne old.names (files_of store) Leads image → OpensAmong old.names (step_to (folder_of store) expected) image
    go image (inl opens) = inl opens
    go image (inr h) =
        let to = leads h.0 h.1 in
        step_opens (folder_of store) expected to.0 old.names image to.1 (subst (λ (z : State). OpensAs old.names z image) to.2 h.2)

pub commit_stops : (store : Store) (name : List ℕ) (old new : View) → StopLeaves store old new (CommitsTo store 0 name) → StopsAmong store old new (step_to (folder_of store) (commit_package (folder_of store) name))
commit_stops store name old new stops = step_stops store (CommitsTo store 0 name) (commit_package (folder_of store) name) old new (λ after h. (written (folder_of store) h.new, printed_to store name h.new h.written, h.files)) stops

pub replace_stops : (store : Store) (tree : Package) (old new : View) → StopLeaves store old new (ReplacesTo store tree) → StopsAmong store old new (step_to (folder_of store) (replaced (folder_of store) tree))
replace_stops store tree old new stops = step_stops store (ReplacesTo store tree) (replaced (folder_of store) tree) old new (λ after h. (written (folder_of store) h.new, replaced_to store tree h.new h.written, h.files)) stops

-- ---- one call behind another

pub stops_join : (store mid : Store) (a b c : View) (first second all : List Folder) → SameDisk a b → IsGood (snap_of mid) → AreAmong first all → AreAmong second all
    → StopsAmong store a b first → StopsAmong mid b c second → StopsAmong store a c all
stops_join store mid a b c first second all same good front behind one two ready files seen =
    let still = same.tells files seen in
    joins a b c (OpensAmong a.names first) (OpensAmong b.names second) (OpensAmong a.names all) (one ready files seen) (two good still.0 still.1)
    (λ image opens. opens_more a.names first all image front opens)
    (λ image opens. opens_more a.names second all image behind (subst (λ (z : List (List ℕ)). OpensAmong z second image) same.names opens))

-- a call from a store on the same disk
stops_from : (store mid : Store) (a c : View) (second all : List Folder) → IsGood (snap_of mid) → AreAmong second all → StopsAmong mid a c second → StopsAmong store a c all
stops_from store mid a c second all good behind two ready files seen = stops_more mid a c second all behind two good files seen

pub images_join : {D : Type 0} (view : D → View) (store mid : Store) (a b c : D) (first second all : List Folder) → SameDisk (view a) (view b) → IsGood (snap_of mid) → AreAmong first all → AreAmong second all
    → StaysOrStops store view a b first → StaysOrStops mid view b c second → StaysOrStops store view a c all
images_join view store mid a b c first second all same good front behind (inl e) (inl f) = inl (f ∙ e)
images_join {D} view store mid a b c first second all same good front behind (inl e) (inr two) =
    inr (stops_from store mid (view a) (view c) second all good behind (subst (λ (z : D). StopsAmong mid (view z) (view c) second) e two))
images_join {D} view store mid a b c first second all same good front behind (inr one) (inl f) =
    inr (subst (λ (z : D). StopsAmong store (view a) (view z) all) (sym f) (stops_more store (view a) (view b) first all front one))
images_join view store mid a b c first second all same good front behind (inr one) (inr two) =
    inr (stops_join store mid (view a) (view b) (view c) first second all same good front behind one two)

-- behind calls that were done
pub images_after : {X D : Type 0} (view : D → View) (value : X) (store mid : Store) (a b c : D) (s t : View) (all second : List Folder) → Writes {X = X} (Ok value) store mid (view a) (view b) s t → AreAmong second all
    → StaysOrStops store view a b all → StaysOrStops mid view b c second → StaysOrStops store view a c all
images_after view value store mid a b c s t all second writes behind one two =
    images_join view store mid a b c all second all writes.same (writes.files.ready writes.closes) (λ found h. h) behind one two

-- ---- commits

step_within : (folder found : Folder) (name : List ℕ) (names : List (List ℕ)) (answer : Result Folder Refusal) → commit_package folder name ≡ answer → IsAmong found (step_to folder answer)
    → IsAmong found (commit_passes folder (name ∷ names))
step_within folder found name names answer is (inl e) = subst (λ (z : Folder). IsAmong z (commit_passes folder (name ∷ names))) (sym e) (at_front folder (name ∷ names))
step_within folder found name names (Ok after) is (inr (inl e)) = among_step folder after found name names is (subst (λ (z : Folder). IsAmong z (commit_passes after names)) (sym e) (at_front after names))
step_within folder found name names (Err refusal) is (inr (inl e)) = subst (λ (z : Folder). IsAmong z (commit_passes folder (name ∷ names))) (sym e) (at_front folder (name ∷ names))
step_within folder found name names answer is (inr (inr h)) = absurd h

-- what the loop over packages left of the files, and does with the next package
pub commits_images : {D : Type 0} (view : D → View) (old now : Store) (a b e : D) (s t : View) (place : ℕ) (name : List ℕ) → CommitsSoFar old now (view a) (view b) s t place → place < length (names_of old) → name
    ≡ slice_index_or (names_of old) place name
    → StaysOrStops old view a b (commit_passes (folder_of old) (names_of old)) → StaysOrStops now view b e (step_to (folder_of now) (commit_package (folder_of now) name))
    → StaysOrStops old view a e (commit_passes (folder_of old) (names_of old))
commits_images view old now a b e s t place name so inside is one two =
    images_after view (tt {0}) old now a b e s t (commit_passes (folder_of old) (names_of old)) (step_to (folder_of now) (commit_package (folder_of now) name)) so.writes
    (λ found h. so.among found (subst (λ (z : List (List ℕ)). IsAmong found (commit_passes (folder_of now) z)) (sym (from_here (names_of old) place name inside is))
    (step_within (folder_of now) found name (drop (place + 1) (names_of old)) (commit_package (folder_of now) name) refl h)))
    one two

-- ---- lines

pub lines_images : {D : Type 0} (view : D → View) (options : Options) (old now : Store) (a b e : D) (s t : View) (lines : List Line) (place : ℕ) (line : Line) (output told : List ℕ) (refusal : Option Refusal)
    → LinesSoFar options old now (view a) (view b) s t lines place output told refusal → place < length lines → line ≡ slice_index_or lines place line
    → StaysOrStops old view a b (lines_passes options (folder_of old) lines) → StaysOrStops now view b e (line_passes options (folder_of now) line.words) → StaysOrStops old view a e (lines_passes options (folder_of old) lines)
lines_images view options old now a b e s t lines place line output told refusal so inside is one two =
    images_after view (tt {0}) old now a b e s t (lines_passes options (folder_of old) lines) (line_passes options (folder_of now) line.words) so.writes
    (λ found h. lines_among options old now (view a) (view b) s t lines place line output told refusal found so inside is h)
    one two

-- ---- `import`

pub merges_is : (options : Options) (folder : Folder) (name input : List ℕ) (tree : Package) → Reads name input tree → options.merge ≡ true → import_done options folder name input ≡ merge_done folder name input
merges_is options folder name input tree reads merges =
    ap (λ (z : Result Package TreeError). if_ok (parsed z) (λ found. cond options.merge (merge_done folder name input) (replaced folder found))) (package_is name input tree reads)
    ∙ ap (λ (z : Bool). cond z (merge_done folder name input) (replaced folder tree)) merges

pub replaces_is : (options : Options) (folder : Folder) (name input : List ℕ) (tree : Package) → Reads name input tree → options.merge ≡ false → import_done options folder name input ≡ replaced folder tree
replaces_is options folder name input tree reads merges =
    ap (λ (z : Result Package TreeError). if_ok (parsed z) (λ found. cond options.merge (merge_done folder name input) (replaced folder found))) (package_is name input tree reads)
    ∙ ap (λ (z : Bool). cond z (merge_done folder name input) (replaced folder tree)) merges

-- a step that is known
pub images_to : {D : Type 0} (view : D → View) (store : Store) (old new : D) (folder : Folder) (one other : Result Folder Refusal) → other ≡ one → StaysOrStops store view old new (step_to folder one)
    → StaysOrStops store view old new (step_to folder other)
images_to view store old new folder one other is images = subst (λ (z : Result Folder Refusal). StaysOrStops store view old new (step_to folder z)) (sym is) images

pub import_images : {D : Type 0} (view : D → View) (options : Options) (store : Store) (old new : D) (asked : Command) (name input : List ℕ) → asked ≡ command.Import name
    → StaysOrStops store view old new (step_to (folder_of store) (import_done options (folder_of store) name input))
    → StaysOrStops store view old new (passes options (folder_of store) asked input)
import_images view options store old new asked name input is images =
    subst (λ (z : Command). StaysOrStops store view old new (passes options (folder_of store) z input)) (sym is)
    (subst (λ (z : Carried). StaysOrStops store view old new (one_step (folder_of store) z.after)) (sym (changed_same (folder_of store) (import_done options (folder_of store) name input))) images)

-- ---- any other command

other_passes : (options : Options) (folder : Folder) (asked : Command) (input : List ℕ) → ((name : List ℕ) → asked ≡ command.Import name → ⊥) → (asked ≡ command.Batch → ⊥) → passes options folder asked input
    ≡ command_passes options folder asked
other_passes options folder (command.Show path) input no_import no_batch = refl
other_passes options folder (command.Get path) input no_import no_batch = refl
other_passes options folder (command.Stage verb word) input no_import no_batch = refl
other_passes options folder (command.Add name kind) input no_import no_batch = refl
other_passes options folder (command.Changes name) input no_import no_batch = refl
other_passes options folder (command.Revert path) input no_import no_batch = refl
other_passes options folder (command.Commit name) input no_import no_batch = refl
other_passes options folder (command.Export name) input no_import no_batch = refl
other_passes options folder (command.Import name) input no_import no_batch = absurd (no_import name refl)
other_passes options folder command.Batch input no_import no_batch = absurd (no_batch refl)

pub other_images : {D : Type 0} (view : D → View) (options : Options) (store : Store) (old new : D) (asked : Command) (input : List ℕ) → ((name : List ℕ) → asked ≡ command.Import name → ⊥) → (asked ≡ command.Batch → ⊥)
    → StaysOrStops store view old new (command_passes options (folder_of store) asked) → StaysOrStops store view old new (passes options (folder_of store) asked input)
other_images view options store old new asked input no_import no_batch images = subst (λ (z : List Folder). StaysOrStops store view old new z) (sym (other_passes options (folder_of store) asked input no_import no_batch)) images

-- ---- the whole command

pub whole_stops : {D : Type 0} (view : D → View) (words : List (List ℕ)) (asked : Asked) (command : Command) (store : Store) (input : Stream) (old new : D) → asked ≡ asked_of words → asked.command ≡ Some command
    → CommandStops asked.options command store input view old new → (new ≡ old) ⊎ ((text : List ℕ) × IsInput words input text × StopsAmong store (view old) (view new) (uci_passes words (folder_of store) text))
whole_stops view words asked command store input old new is some (inl e) = inl e
whole_stops view words asked command store input old new is some (inr h) = inr (
  h.0,
  by_words words asked command input h.0 is some h.1,
  subst (λ (z : Asked). StopsAmong store (view old) (view new) (asked_folders z.options (folder_of store) z.command h.0)) is
      (subst (λ (z : Option Command). StopsAmong store (view old) (view new) (asked_folders asked.options (folder_of store) z h.0)) (sym some) h.2),
)
