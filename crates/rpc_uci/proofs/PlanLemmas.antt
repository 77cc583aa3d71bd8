-- What is planned of a package, the package takes.
use Rattle.std.proofs.Common.{ℕ, ◌≡◌, ◌+◌, List, [], ◌∷◌, ◌++◌, Option, Some, None, Result, Ok, Err, Bool, true, false, if◌then◌else◌, refl, subst}
use Rattle.std.specs.Prelude.{codes}
use Rattle.std.specs.Fmt.{digits}
use Rattle.blob_codec.specs.declared.blob.Blob.{Blob}
use Rattle.blob_codec.specs.declared.blob.Blob.TheOpen.{Blob-F}
use Rattle.blob_codec.specs.declared.blob.Blob.TheViews.{out-Blob}
use Rattle.blob_codec.specs.declared.blob.Attr.{Attr}
use Rattle.rpc_session.specs.Arguments.{argument, needed_text, needed_array, text_of}
use Rattle.uci_tree.specs.declared.package.Section.{Section}
use Rattle.uci_tree.specs.declared.package.Package.{Package}
use Rattle.uci_delta.specs.declared.delta.Change.{Change}
use Rattle.uci_delta.specs.declared.delta.Change.TheVariants.{Set as SetTo, Remove, Rename as RenameTo, Reorder, ListAdd}
use Rattle.uci_delta.specs.declared.delta.Delta.{Delta}
use Rattle.uci_delta.specs.declared.delta_error.DeltaError.{DeltaError}
use Rattle.uci_delta.specs.Applied.{applied}
use Rattle.rpc_rules.specs.declared.method.Edit.{Edit}
use Rattle.rpc_rules.specs.declared.method.Edit.TheVariants.{Add, Set, Delete, Rename, Order}
use Rattle.rpc_rules.specs.declared.plan.Plan.{Plan}
use Rattle.rpc_rules.specs.Status.{bad_argument, not_found, status_of, and_then}
use Rattle.rpc_rules.specs.Arguments.{values_argument, values_or_none}
use Rattle.rpc_rules.specs.Told.{section_of}
use Rattle.rpc_rules.specs.Plan.{start, taken, with_delta, delta_of, has_option, option_gone, item_taken, items_taken, list_taken, value_taken_in, value_taken, values_taken}
use Rattle.rpc_rules.specs.Edits as edits
use Rattle.rpc_uci.specs.Staging.{TakesAll}

-- the deltas, all of them of that name, lead from one package to another
abbrev pub Leads : List ℕ → Package → List Delta → Package → Type 0
Leads name tree [] last = last ≡ tree
Leads name tree (delta ∷ deltas) last = (delta.package ≡ name) × ((next : Package) × (applied tree delta ≡ Ok next) × Leads name next deltas last)

leads_on : (name : List ℕ) (tree last next : Package) (deltas : List Delta) (delta : Delta) → Leads name tree deltas last → delta.package ≡ name → applied last delta ≡ Ok next → Leads name tree (deltas ++ delta ∷ []) next
leads_on name tree last next [] delta is belongs takes = (belongs, (next, subst (λ (t : Package). applied t delta ≡ Ok next) is takes, refl))
leads_on name tree last next (first ∷ deltas) delta h belongs takes = (h.0, (h.1.0, h.1.1, leads_on name h.1.0 last next deltas delta h.1.2 belongs takes))

leads_takes : (name : List ℕ) (tree last : Package) (deltas : List Delta) → Leads name tree deltas last → TakesAll name tree deltas
leads_takes name tree last [] h = tt
leads_takes name tree last (delta ∷ deltas) h = (h.0, (h.1.0, h.1.1, leads_takes name h.1.0 last deltas h.1.2))

-- the plan is one of the package that the holder sees
pub record IsPlan (name : List ℕ) (view : Package) (plan : Plan) : Type 0 where
  pub leads : Leads name view plan.deltas plan.tree

abbrev Keeps : List ℕ → Package → (Plan → Result Plan ℕ) → Type 0
Keeps name view step = (plan made : Plan) → IsPlan name view plan → step plan ≡ Ok made → IsPlan name view made

same_ok : (a b : Plan) → ◌≡◌ {A = Result Plan ℕ} (Ok a) (Ok b) → a ≡ b
same_ok a b e = cc

no_ok : (status : ℕ) (b : Plan) → ◌≡◌ {A = Result Plan ℕ} (Err status) (Ok b) → ⊥
no_ok status b e = cc

ok_keeps : (name : List ℕ) (view : Package) → Keeps name view (λ plan. Ok plan)
ok_keeps name view plan made is e = subst (IsPlan name view) (same_ok plan made e) is

err_keeps : (name : List ℕ) (view : Package) (status : ℕ) → Keeps name view (λ plan. Err status)
err_keeps name view status plan made is e = absurd (no_ok status made e)

then_keeps : (name : List ℕ) (view : Package) (first second : Plan → Result Plan ℕ) → Keeps name view first → Keeps name view second → Keeps name view (λ plan. and_then (first plan) second)
then_keeps name view first second k l plan made is e = by (first plan) refl e
  where
    by : (r : Result Plan ℕ) → first plan ≡ r → and_then r second ≡ Ok made → IsPlan name view made
    by (Ok p) f g = l p made (k plan p is f) g
    by (Err status) f g = absurd (no_ok status made g)

taken_keeps : (name : List ℕ) (view : Package) (delta : Delta) → delta.package ≡ name → Keeps name view (taken delta)
taken_keeps name view delta belongs plan made is e = by (applied plan.tree delta) refl e
  where
    by : (r : Result Package DeltaError) → applied plan.tree delta ≡ r → with_delta delta plan r ≡ Ok made → IsPlan name view made
    by (Ok tree) f g =
        let p : Plan = record { tree = tree; deltas = plan.deltas ++ delta ∷ []; told = plan.told } in
        let next : IsPlan name view p = record { leads = leads_on name view plan.tree tree plan.deltas delta is.leads belongs f } in
        subst (IsPlan name view) (same_ok p made g) next
    by (Err error) f g = absurd (no_ok (status_of error) made g)

-- ---- values

gone_keeps : (name : List ℕ) (view : Package) (section option : List ℕ) → Keeps name view (option_gone name section option)
gone_keeps name view section option plan made is e = by (has_option option (section_of section plan.tree.sections)) e
  where
    by : (t : Bool) → (if t then taken (delta_of name section (Some option) Remove) plan else Ok plan) ≡ Ok made → IsPlan name view made
    by true g = taken_keeps name view (delta_of name section (Some option) Remove) refl plan made is g
    by false g = ok_keeps name view plan made is g

item_keeps : (name : List ℕ) (view : Package) (section option : List ℕ) (text : Option (List ℕ)) → Keeps name view (item_taken name section option text)
item_keeps name view section option None plan made is e = err_keeps name view bad_argument plan made is e
item_keeps name view section option (Some text) plan made is e = taken_keeps name view (delta_of name section (Some option) (ListAdd text)) refl plan made is e

items_keep : (name : List ℕ) (view : Package) (section option : List ℕ) (items : List Attr) → Keeps name view (items_taken name section option items)
items_keep name view section option [] plan made is e = ok_keeps name view plan made is e
items_keep name view section option (item ∷ items) plan made is e =
    then_keeps name view (item_taken name section option (text_of item.value)) (items_taken name section option items)
    (item_keeps name view section option (text_of item.value)) (items_keep name view section option items) plan made is e

list_keeps : (name : List ℕ) (view : Package) (section option : List ℕ) (items : List Attr) → Keeps name view (list_taken name section option items)
list_keeps name view section option items plan made is e =
    then_keeps name view (option_gone name section option) (items_taken name section option items) (gone_keeps name view section option) (items_keep name view section option items) plan made is e

value_in_keeps : (name : List ℕ) (view : Package) (section option : List ℕ) (value : Blob-F Blob Attr) → Keeps name view (value_taken_in name section option value)
value_in_keeps name view section option Blob-F.Unspec plan made is e = err_keeps name view bad_argument plan made is e
value_in_keeps name view section option (Blob-F.Array items) plan made is e = list_keeps name view section option items plan made is e
value_in_keeps name view section option (Blob-F.Table attrs) plan made is e = err_keeps name view bad_argument plan made is e
value_in_keeps name view section option (Blob-F.Str text) plan made is e = taken_keeps name view (delta_of name section (Some option) (SetTo text)) refl plan made is e
value_in_keeps name view section option (Blob-F.I64 n) plan made is e = err_keeps name view bad_argument plan made is e
value_in_keeps name view section option (Blob-F.I32 n) plan made is e = err_keeps name view bad_argument plan made is e
value_in_keeps name view section option (Blob-F.I16 n) plan made is e = err_keeps name view bad_argument plan made is e
value_in_keeps name view section option (Blob-F.I8 n) plan made is e = err_keeps name view bad_argument plan made is e

values_keep : (name : List ℕ) (view : Package) (section : List ℕ) (attrs : List Attr) → Keeps name view (values_taken name section attrs)
values_keep name view section [] plan made is e = ok_keeps name view plan made is e
values_keep name view section (attr ∷ attrs) plan made is e =
    then_keeps name view (value_taken name section attr) (values_taken name section attrs)
    (value_in_keeps name view section attr.name (out-Blob attr.value)) (values_keep name view section attrs) plan made is e

-- ---- methods

start_is : (name : List ℕ) (view : Package) → IsPlan name view (start view)
start_is name view = record { leads = refl }

told_keeps : (name : List ℕ) (view : Package) (section : List ℕ) → Keeps name view (edits.with_name_told section)
told_keeps name view section plan made is e =
    let told : Plan = record plan { told = edits.name_told section } in
    let leads : IsPlan name view told = record { leads = is.leads } in
    subst (IsPlan name view) (same_ok told made e) leads

added_is : (name section : List ℕ) (change : Change) (values : List Attr) (view : Package) (plan : Plan) → edits.added_as name section change values view ≡ Ok plan → IsPlan name view plan
added_is name section change values view plan e =
    then_keeps name view (λ p. and_then (taken (delta_of name section None change) p) (values_taken name section values)) (edits.with_name_told section)
    (then_keeps name view (taken (delta_of name section None change)) (values_taken name section values) (taken_keeps name view (delta_of name section None change) refl) (values_keep name view section values))
    (told_keeps name view section) (start view) plan (start_is name view) e

add_is : (name : List ℕ) (kind section : Option (List ℕ)) (values : List Attr) (view : Package) (plan : Plan) → edits.add_of name kind section values view ≡ Ok plan → IsPlan name view plan
add_is name None section values view plan e = absurd (no_ok bad_argument plan e)
add_is name (Some kind) section values view plan e = added_is name (edits.new_name section kind view) (edits.new_change section kind) values view plan e

set_at : (name section : List ℕ) (values : List Attr) (view : Package) (found : Option Section) (plan : Plan) → edits.values_set name section values view found ≡ Ok plan → IsPlan name view plan
set_at name section values view None plan e = absurd (no_ok not_found plan e)
set_at name section values view (Some found) plan e = values_keep name view section values (start view) plan (start_is name view) e

set_is : (name : List ℕ) (section : Option (List ℕ)) (values : Option (List Attr)) (view : Package) (plan : Plan) → edits.set_of name section values view ≡ Ok plan → IsPlan name view plan
set_is name None values view plan e = absurd (no_ok bad_argument plan e)
set_is name (Some section) None view plan e = absurd (no_ok bad_argument plan e)
set_is name (Some section) (Some values) view plan e = set_at name section values view (section_of section view.sections) plan e

delete_is : (name : List ℕ) (section option : Option (List ℕ)) (view : Package) (plan : Plan) → edits.delete_of name section option view ≡ Ok plan → IsPlan name view plan
delete_is name None option view plan e = absurd (no_ok bad_argument plan e)
delete_is name (Some section) option view plan e = taken_keeps name view (delta_of name section option Remove) refl (start view) plan (start_is name view) e

rename_is : (name : List ℕ) (section option new : Option (List ℕ)) (view : Package) (plan : Plan) → edits.rename_of name section option new view ≡ Ok plan → IsPlan name view plan
rename_is name None option new view plan e = absurd (no_ok bad_argument plan e)
rename_is name (Some section) option None view plan e = absurd (no_ok bad_argument plan e)
rename_is name (Some section) option (Some new) view plan e = taken_keeps name view (delta_of name section option (RenameTo new)) refl (start view) plan (start_is name view) e

move_keeps : (name : List ℕ) (view : Package) (place : ℕ) (section : Option (List ℕ)) → Keeps name view (edits.move_taken name place section)
move_keeps name view place None plan made is e = err_keeps name view bad_argument plan made is e
move_keeps name view place (Some section) plan made is e = taken_keeps name view (delta_of name section None (Reorder (digits 10 false place))) refl plan made is e

moves_keep : (name : List ℕ) (view : Package) (place : ℕ) (items : List Attr) → Keeps name view (edits.moves_taken name place items)
moves_keep name view place [] plan made is e = ok_keeps name view plan made is e
moves_keep name view place (item ∷ items) plan made is e =
    then_keeps name view (edits.move_taken name place (text_of item.value)) (edits.moves_taken name (place + 1) items)
    (move_keeps name view place (text_of item.value)) (moves_keep name view (place + 1) items) plan made is e

order_is : (name : List ℕ) (items : Option (List Attr)) (view : Package) (plan : Plan) → edits.order_of name items view ≡ Ok plan → IsPlan name view plan
order_is name None view plan e = absurd (no_ok bad_argument plan e)
order_is name (Some items) view plan e = moves_keep name view 0 items (start view) plan (start_is name view) e

planned_is : (edit : Edit) (name : List ℕ) (args : List Attr) (view : Package) (plan : Plan) → edits.planned edit name args view ≡ Ok plan → IsPlan name view plan
planned_is Add name args view plan e = add_is name (needed_text (argument (codes "type") args)) (needed_text (argument (codes "name") args)) (values_or_none (values_argument args)) view plan e
planned_is Set name args view plan e = set_is name (needed_text (argument (codes "section") args)) (values_argument args) view plan e
planned_is Delete name args view plan e = delete_is name (needed_text (argument (codes "section") args)) (needed_text (argument (codes "option") args)) view plan e
planned_is Rename name args view plan e = rename_is name (needed_text (argument (codes "section") args)) (needed_text (argument (codes "option") args)) (needed_text (argument (codes "name") args)) view plan e
planned_is Order name args view plan e = order_is name (needed_array (argument (codes "sections") args)) view plan e

-- what is planned, the package takes
pub planned_takes : (edit : Edit) (name : List ℕ) (args : List Attr) (view : Package) (plan : Plan) → edits.planned edit name args view ≡ Ok plan → TakesAll name view plan.deltas
planned_takes edit name args view plan e = leads_takes name view plan.tree plan.deltas (planned_is edit name args view plan e).leads
