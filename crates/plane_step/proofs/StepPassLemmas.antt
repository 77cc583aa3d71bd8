-- The folders that lines and scripts pass through.
use Rattle.std.proofs.Common.{ℕ, ◌≡◌, inl, inr, Option, List, [], ◌∷◌, ◌++◌, Bool, ap, sym, subst, ◌∙◌, refl, append_assoc}
use Rattle.plane_disk.specs.Files.{Files}
use Rattle.plane_disk.specs.View.{View}
use Rattle.snap_disk.specs.Images.{SameDisk}
use Rattle.snap_disk.specs.Refusals.{IsGood}
use Rattle.snap_disk.proofs.Moments.{joins, widens}
use Rattle.net_settle.specs.Outside.{Outside}
use Rattle.uci_text.specs.declared.line.Line.{Line}
use Rattle.uci_store.specs.declared.store.Store.{Store}
use Rattle.uci_store.specs.Store.{snap_of}
use Rattle.uci_tool.specs.Folder.{Folder}
use Rattle.uci_tool.specs.Answers.{IsAmong}
use Rattle.uci_tool.specs.Stops.{OpensAmong, StaysOrStops}
use Rattle.script_lines.specs.declared.script_line.ScriptLine.{ScriptLine}
use Rattle.plane_step.specs.FilesMoved.{files_moved}
use Rattle.rpc_objects.specs.Passed.{OpensIn, StopsIn, StaysOrStopsIn}
use Rattle.bus_lines.specs.World.{World}
use Rattle.plane_outside.specs.Supply.{Supply}
use Rattle.plane_step.specs.Passed.{LinePasses, PlainPasses}
use Rattle.plane_step.specs.ScriptPasses.{ScriptPasses}
use Rattle.plane_step.specs.Ran.{Ran}

-- ---- folders that are listed

opens_one : (names : List (List ℕ)) (folders : List Folder) (image : Files)
    → OpensAmong names folders image → OpensIn names (λ folder. IsAmong folder folders) image
opens_one names [] image opens = absurd opens
opens_one names (one ∷ others) image (inl opens) =
    record { folder = one; passed = inl refl; opens = opens }
opens_one names (one ∷ others) image (inr opens) =
    let other = opens_one names others image opens in
    record { folder = other.folder; passed = inr other.passed; opens = other.opens }

opens_each : (names : List (List ℕ)) (folders : List Folder) (Passes : Folder → Type 0) (image : Files)
    → ((folder : Folder) → IsAmong folder folders → Passes folder) → OpensAmong names folders image
    → OpensIn names Passes image
opens_each names folders Passes image each opens =
    let one = opens_one names folders image opens in
    record { folder = one.folder; passed = each one.folder one.passed; opens = one.opens }

-- images that open among a list of folders open as folders of a kind, if each of the list is one
pub images_listed : {D : Type 0} (view : D → View) (store : Store) (old new : D) (folders : List Folder)
    (Passes : Folder → Type 0) → ((folder : Folder) → IsAmong folder folders → Passes folder)
    → StaysOrStops store view old new folders → StaysOrStopsIn store view old new Passes
images_listed view store old new folders Passes each (inl same) = inl same
images_listed view store old new folders Passes each (inr stops) =
    inr (λ good files seen. widens (view old) (view new) (OpensAmong (view old).names folders)
    (OpensIn (view old).names Passes) (stops good files seen)
    (λ image opens. opens_each (view old).names folders Passes image each opens))

-- those of a line of no caller
pub plain_listed : (world : World) (read : Option ScriptLine) (folder : Folder)
    → IsAmong folder (files_moved world.now world.files read).passes → PlainPasses world read folder
plain_listed world read folder among = inr among

-- ---- folders of a kind

opens_more : (names : List (List ℕ)) (P Q : Folder → Type 0) (image : Files)
    → ((folder : Folder) → P folder → Q folder) → OpensIn names P image → OpensIn names Q image
opens_more names P Q image more opens =
    record { folder = opens.folder; passed = more opens.folder opens.passed; opens = opens.opens }

stops_more : (store : Store) (old new : View) (P Q : Folder → Type 0)
    → ((folder : Folder) → P folder → Q folder) → StopsIn store old new P → StopsIn store old new Q
stops_more store old new P Q more stops good files seen =
    widens old new (OpensIn old.names P) (OpensIn old.names Q) (stops good files seen)
    (λ image opens. opens_more old.names P Q image more opens)

pub images_more : {D : Type 0} (view : D → View) (store : Store) (old new : D) (P Q : Folder → Type 0)
    → ((folder : Folder) → P folder → Q folder) → StaysOrStopsIn store view old new P
    → StaysOrStopsIn store view old new Q
images_more view store old new P Q more (inl same) = inl same
images_more view store old new P Q more (inr stops) =
    inr (stops_more store (view old) (view new) P Q more stops)

-- the same, from a store of the same files
pub images_from : {D : Type 0} (view : D → View) (store mid : Store) (old new : D) (P Q : Folder → Type 0)
    → snap_of mid ≡ snap_of store → ((folder : Folder) → P folder → Q folder)
    → StaysOrStopsIn mid view old new P → StaysOrStopsIn store view old new Q
images_from view store mid old new P Q same more (inl is) = inl is
images_from view store mid old new P Q same more (inr stops) =
    inr (λ good files seen. stops_more mid (view old) (view new) P Q more stops
    (subst IsGood (sym same) good) files seen)

stops_join : (store mid : Store) (a b c : View) (P Q R : Folder → Type 0) → SameDisk a b
    → IsGood (snap_of mid) → ((folder : Folder) → P folder → R folder)
    → ((folder : Folder) → Q folder → R folder) → StopsIn store a b P → StopsIn mid b c Q
    → StopsIn store a c R
stops_join store mid a b c P Q R same good front behind one two ready files seen =
    let still = same.tells files seen in
    joins a b c (OpensIn a.names P) (OpensIn b.names Q) (OpensIn a.names R) (one ready files seen)
    (two good still.0 still.1) (λ image opens. opens_more a.names P R image front opens)
    (λ image opens. opens_more a.names Q R image behind
    (subst (λ (names : List (List ℕ)). OpensIn names Q image) same.names opens))

-- one line behind others
pub images_join : {D : Type 0} (view : D → View) (store mid : Store) (a b c : D) (P Q R : Folder → Type 0)
    → SameDisk (view a) (view b) → IsGood (snap_of mid) → ((folder : Folder) → P folder → R folder)
    → ((folder : Folder) → Q folder → R folder) → StaysOrStopsIn store view a b P
    → StaysOrStopsIn mid view b c Q → StaysOrStopsIn store view a c R
images_join view store mid a b c P Q R same good front behind (inl e) (inl f) = inl (f ∙ e)
images_join {D} view store mid a b c P Q R same good front behind (inl e) (inr two) =
    inr (λ ready files seen. stops_more mid (view a) (view c) Q R behind
    (subst (λ (d : D). StopsIn mid (view d) (view c) Q) e two) good files seen)
images_join {D} view store mid a b c P Q R same good front behind (inr one) (inl f) =
    inr (subst (λ (d : D). StopsIn store (view a) (view d) R) (sym f)
    (stops_more store (view a) (view b) P R front one))
images_join view store mid a b c P Q R same good front behind (inr one) (inr two) =
    inr (stops_join store mid (view a) (view b) (view c) P Q R same good front behind one two)

-- ---- scripts

-- those of a front are those of all
pub front_passes : (start : World) (supply : Supply) (done rest all : List Line) → done ++ rest ≡ all
    → (folder : Folder) → ScriptPasses start supply done folder → ScriptPasses start supply all folder
front_passes start supply done rest all is _ ScriptPasses.front = ScriptPasses.front
front_passes start supply done rest all is folder (ScriptPasses.within before line behind parts lucks so_far folds after uses _ passes) =
    ScriptPasses.within before line (behind ++ rest)
    (sym is ∙ ap (λ lines. lines ++ rest) parts ∙ append_assoc before (line ∷ behind) rest)
    lucks so_far folds after uses folder passes

-- those of a line behind others are those of the lines up to it
pub line_passes : (start world : World) (done : List Line) (before between : Outside) (is_ok : Bool)
    (supply after : Supply)
    → Ran start done world (record { before = supply; after = after }) before between is_ok
    → (line : Line) (folder : Folder) → LinePasses world line folder
    → ScriptPasses start supply (done ++ line ∷ []) folder
line_passes start world done before between is_ok supply after ran line folder passes =
    ScriptPasses.within done line [] refl ran.lucks ran.end ran.folds after ran.used folder
    (subst (λ (w : World). LinePasses w line folder) ran.next passes)
