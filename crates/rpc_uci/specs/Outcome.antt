-- What a call comes to before anything changes.
use Rattle.std.specs.Prelude.{ℕ, ◌≡◌, List, [], ◌∷◌, Option, Some, None, Result, Ok, Err, Bool, true, false, ◌&&◌}
use Rattle.std.specs.Prelude.{is_some, map, filter, if◌then◌else◌}
use Rattle.blob_codec.specs.declared.blob.Attr.{Attr}
use Rattle.uci_tree.specs.declared.package.Package.{Package}
use Rattle.uci_delta.specs.declared.delta.Delta.{Delta}
use Rattle.uci_store.specs.declared.store.Store.{Store}
use Rattle.uci_store.specs.Store.{names_of, file_of}
use Rattle.rpc_session.specs.SessionList.{SessionList}
use Rattle.rpc_rules.specs.declared.caller.Caller.{Caller}
use Rattle.rpc_rules.specs.declared.method.Question.{Question}
use Rattle.rpc_rules.specs.declared.method.Question.TheVariants.{Configs, Get, Changes}
use Rattle.rpc_rules.specs.declared.method.Edit.{Edit}
use Rattle.rpc_rules.specs.declared.plan.Plan.{Plan}
use Rattle.rpc_rules.specs.Status.{bad_argument, not_found, and_then}
use Rattle.rpc_rules.specs.Arguments.{config_in, holder_of, question_fits, edit_fits}
use Rattle.rpc_rules.specs.Grants.{may_read}
use Rattle.rpc_rules.specs.Told.{get_told, configs_told}
use Rattle.rpc_rules.specs.Changes.{package_changes, changes_told}
use Rattle.rpc_rules.specs.Edits.{planned}
use Rattle.rpc_uci.specs.Call.{Call}
use Rattle.rpc_uci.specs.Sight.{deltas_named, are_some, Sees}

-- What is seen of the package that the arguments name. Arguments that are missing or of another form go first, and the
-- package is one of them.
abbrev pub SeesNamed : Store → ℕ → Bool → Option (List ℕ) → Result Package ℕ → Type 0
SeesNamed store holder false config seen = seen ≡ Err bad_argument
SeesNamed store holder true None seen = seen ≡ Err bad_argument
SeesNamed store holder true (Some name) seen = Sees store holder name seen

-- what comes of that
abbrev pub ComesOf : {X : Type 0} → Store → ℕ → Bool → Option (List ℕ) → (Package → Result X ℕ) → Result X ℕ → Type 0
ComesOf store holder fits config next outcome =
    (seen : Result Package ℕ) × SeesNamed store holder fits config seen × (outcome ≡ and_then seen next)

-- ---- questions

-- `get`: the package, the section or the option that is named
abbrev pub GetComesTo : Store → ℕ → List Attr → Result (List Attr) ℕ → Type 0
GetComesTo store holder args outcome =
    ComesOf store holder (question_fits Get args) (config_in args) (get_told args) outcome

-- what is staged of a package
abbrev pub changes_of : Store → ℕ → List ℕ → Attr
changes_of store holder name = package_changes name (deltas_named holder store name)

-- something of the package is staged, and the caller may read it
abbrev pub is_told : Store → SessionList → Caller → ℕ → List ℕ → Bool
is_told store list caller now name =
    are_some (deltas_named (holder_of caller) store name) && may_read list caller now name

-- a package with its changes, where there are some
abbrev pub package_told : List ℕ → List Delta → List Attr
package_told name deltas = if are_some deltas then package_changes name deltas ∷ [] else []

-- `changes`: of the package that is named, or of all that may be read; one of which nothing is staged is left out
abbrev pub changes_asked : Store → Call → Option (List ℕ) → Result (List Attr) ℕ
changes_asked store call None =
    Ok (changes_told (map (changes_of store (holder_of call.caller))
    (filter (is_told store call.list call.caller call.now) (names_of store))))
changes_asked store call (Some name) =
    if is_some (file_of (names_of store) name)
    then Ok (changes_told (package_told name (deltas_named (holder_of call.caller) store name))) else Err not_found

abbrev pub changes_outcome : Store → Call → Result (List Attr) ℕ
changes_outcome store call = if question_fits Changes call.args then changes_asked store call (config_in call.args)
    else Err bad_argument

abbrev pub AskComesTo : Question → Store → Call → Result (List Attr) ℕ → Type 0
AskComesTo Configs store call outcome = outcome ≡ Ok (configs_told (names_of store))
AskComesTo Get store call outcome = GetComesTo store (holder_of call.caller) call.args outcome
AskComesTo Changes store call outcome = outcome ≡ changes_outcome store call

-- ---- changes that are staged

-- of the package of that name, where there is one
abbrev pub planned_of : Edit → Option (List ℕ) → List Attr → Package → Result Plan ℕ
planned_of edit None args tree = Err bad_argument
planned_of edit (Some name) args tree = planned edit name args tree

-- what a method is to stage
abbrev pub EditComesTo : Edit → Store → ℕ → List Attr → Result Plan ℕ → Type 0
EditComesTo edit store holder args outcome =
    ComesOf store holder (edit_fits edit args) (config_in args) (planned_of edit (config_in args) args) outcome
