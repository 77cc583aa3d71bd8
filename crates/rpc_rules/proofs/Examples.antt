-- Calls of the object `uci` that the checker computes.
use Rattle.std.proofs.Common.{ℕ, ◌≡◌, List, [], ◌∷◌, Some, None, Result, Ok, Err, false, map, codes, refl}
use Rattle.std.specs.Prelude.{pos}
use Rattle.blob_codec.specs.declared.blob.Blob.TheVariants.{Table, Str, I32, I8}
use Rattle.blob_codec.specs.declared.blob.Blob.TheViews.{out-Blob}
use Rattle.blob_codec.specs.declared.blob.Blob.TheBlock.{shown-the_row-Attr-0}
use denote.Hole.Carrier.{out, shown, hidden}
use Rattle.std.specs.Fmt.{digits}
use Rattle.blob_codec.specs.declared.blob.Attr.{Attr}
use Rattle.rpc_session.specs.Description.{named}
use Rattle.rpc_session.specs.Sessions.{start as only_default}
use Rattle.uci_tree.specs.declared.package.Value.TheVariants.{One, Many}
use Rattle.uci_tree.specs.declared.package.Package.{Package}
use Rattle.rpc_rules.specs.declared.method.Edit.TheVariants.{Add, Set, Order}
use Rattle.rpc_rules.specs.declared.method.Question.TheVariants.{Get}
use Rattle.rpc_rules.specs.declared.method.Method.TheVariants.{Ask, Stage, Apply}
use Rattle.rpc_rules.specs.declared.caller.Caller.TheVariants.{Anyone, Session, Stranger}
use Rattle.rpc_rules.specs.declared.plan.Plan.{Plan}
use Rattle.rpc_rules.specs.Arguments.{caller_in, apply_deadline}
use Rattle.rpc_rules.specs.Grants.{to_read, to_write, to_end, needed, first_missing}
use Rattle.rpc_rules.specs.ByName.{by_name}
use Rattle.rpc_rules.specs.Told.{get_told, text_array}
use Rattle.rpc_rules.specs.Changes.{delta_texts}
use Rattle.rpc_rules.specs.Edits.{planned}

abbrev text : List ℕ → List ℕ → Attr
text name value = named name (Str value)

-- ---- grants

names : List (List ℕ)
names = codes "network" ∷ codes "system" ∷ []

-- `apply` asks for each package with staged changes, and while an apply waits for its own grant behind them
apply_needs : needed Apply (Session 7) [] (codes "network" ∷ codes "system" ∷ []) (Some 7)
    ≡ to_write (codes "network") ∷ to_write (codes "system") ∷ to_end (codes "apply") ∷ []
apply_needs = refl

-- without a session it asks for that one alone
apply_of_anyone : needed Apply Anyone [] (codes "network" ∷ []) (Some 7) ≡ to_end (codes "apply") ∷ []
apply_of_anyone = refl

get_needs : needed (Ask Get) (Session 7) (text (codes "config") (codes "network") ∷ []) [] None ≡ to_read (codes "network") ∷ []
unfolding out-Blob out
get_needs = refl

-- where no package is named no grant is needed
none_needed : needed (Stage Set) (Session 7) (named (codes "config") (I32 (pos 1)) ∷ []) [] None ≡ []
unfolding out-Blob out
none_needed = refl

-- the holder of the waiting apply may confirm it, and nobody else; it may not commit
holder_confirms : first_missing only_default 7 (Some 7) 0 (to_end (codes "confirm") ∷ []) ≡ None
holder_confirms = refl

other_confirms : first_missing only_default 0 (Some 7) 0 (to_end (codes "confirm") ∷ []) ≡ Some (to_end (codes "confirm"))
other_confirms = refl

holder_commits : first_missing only_default 7 (Some 7) 0 (to_end (codes "commit") ∷ []) ≡ Some (to_end (codes "commit"))
holder_commits = refl

-- ---- arguments

no_session : caller_in [] ≡ Anyone
no_session = refl

bad_session : caller_in (text (codes "ubus_rpc_session") (codes "1") ∷ []) ≡ Stranger
unfolding out-Blob out
bad_session = refl

usual_timeout : apply_deadline (named (codes "rollback") (I8 (pos 1)) ∷ []) 100 ≡ Ok (Some 160)
unfolding out-Blob out
usual_timeout = refl

timeout_alone : (apply_deadline (named (codes "timeout") (I32 (pos 60)) ∷ []) 100 ≡ Ok None) × (apply_deadline (named (codes "timeout") (I32 (pos 0)) ∷ []) 100 ≡ Err 2)
unfolding out-Blob out
timeout_alone = (refl, refl)

-- ---- packages

abbrev lan : Package
lan = record {
  name = codes "network";
  sections = record {
    name = codes "lan";
    anonymous = false;
    kind = codes "interface";
    options = record { name = codes "mtu"; value = One (codes "1400") } ∷ record { name = codes "dns"; value = Many (codes "1.1.1.1" ∷ []) } ∷ [];
  } ∷ [];
  made = 1;
}

option_told : get_told (text (codes "section") (codes "lan") ∷ text (codes "option") (codes "dns") ∷ []) lan ≡ Ok (named (codes "value") (text_array (codes "1.1.1.1" ∷ [])) ∷ [])
unfolding out-Blob out
option_told = refl

no_option : get_told (text (codes "section") (codes "lan") ∷ text (codes "option") (codes "nix") ∷ []) lan ≡ Err 4
unfolding out-Blob out
no_option = refl

-- values of one name stay in their order
in_order : by_name (text (codes "b") (codes "1") ∷ text (codes "a") (codes "2") ∷ text (codes "b") (codes "3") ∷ []) ≡ text (codes "a") (codes "2") ∷ text (codes "b") (codes "1") ∷ text (codes "b") (codes "3") ∷ []
in_order = refl

-- ---- what is staged

abbrev deltas_of : Result Plan ℕ → Result (List (List (List ℕ))) ℕ
deltas_of (Ok plan) = Ok (map delta_texts plan.deltas)
deltas_of (Err status) = Err status

-- an option that is there goes before its new items come
list_set : deltas_of (planned Set (codes "network") (text (codes "section") (codes "lan") ∷ named (codes "values") (Table (named (codes "dns") (text_array (codes "8.8.8.8" ∷ [])) ∷ [])) ∷ []) lan)
    ≡ Ok ((codes "remove" ∷ codes "lan" ∷ codes "dns" ∷ []) ∷ (codes "list-add" ∷ codes "lan" ∷ codes "dns" ∷ codes "8.8.8.8" ∷ []) ∷ [])
unfolding out-Blob out shown-the_row-Attr-0 shown hidden
list_set = refl

-- the second value has no name
second_refused : deltas_of (planned Set (codes "network") (text (codes "section") (codes "lan") ∷ named (codes "values") (Table (text (codes "a") (codes "1") ∷ text (codes "b-") (codes "2") ∷ [])) ∷ []) lan) ≡ Err 2
unfolding out-Blob out shown-the_row-Attr-0 shown hidden
second_refused = refl

no_section : deltas_of (planned Set (codes "network") (text (codes "section") (codes "nix") ∷ named (codes "values") (Table []) ∷ []) lan) ≡ Err 4
unfolding out-Blob out
no_section = refl

section_added : deltas_of (planned Add (codes "network") (text (codes "type") (codes "device") ∷ []) lan) ≡ Ok ((codes "add" ∷ codes "cfg020f15" ∷ codes "device" ∷ []) ∷ [])
unfolding out-Blob out digits
section_added = refl

section_moved : deltas_of (planned Order (codes "network") (named (codes "sections") (text_array (codes "lan" ∷ [])) ∷ []) lan) ≡ Ok ((codes "order" ∷ codes "lan" ∷ codes "0" ∷ []) ∷ [])
unfolding out-Blob out shown-the_row-Attr-0 shown hidden digits
section_moved = refl
