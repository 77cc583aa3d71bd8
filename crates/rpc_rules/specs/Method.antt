-- The methods of the object `uci`, by name.
use Rattle.std.specs.Prelude.{ℕ, List, Option, Some, None, codes, if◌then◌else◌}
use Rattle.rpc_session.specs.Grant.{same_text}
use Rattle.rpc_rules.specs.declared.method.Question.TheVariants.{Configs, Get, Changes}
use Rattle.rpc_rules.specs.declared.method.Edit.TheVariants.{Add, Set, Delete, Rename, Order}
use Rattle.rpc_rules.specs.declared.method.Method.{Method}
use Rattle.rpc_rules.specs.declared.method.Method.TheVariants.{Ask, Stage, Revert, Commit, Apply, Confirm, Rollback}

-- the method of a name, if there is one
abbrev pub method_of : List ℕ → Option Method
method_of name =
    if same_text name (codes "configs") then Some (Ask Configs)
    else (if same_text name (codes "get") then Some (Ask Get)
    else (if same_text name (codes "add") then Some (Stage Add)
    else (if same_text name (codes "set") then Some (Stage Set)
    else (if same_text name (codes "delete") then Some (Stage Delete)
    else (if same_text name (codes "rename") then Some (Stage Rename)
    else (if same_text name (codes "order") then Some (Stage Order)
    else (if same_text name (codes "changes") then Some (Ask Changes)
    else (if same_text name (codes "revert") then Some Revert
    else (if same_text name (codes "commit") then Some Commit
    else (if same_text name (codes "apply") then Some Apply
    else (if same_text name (codes "confirm") then Some Confirm
    else (if same_text name (codes "rollback") then Some Rollback
    else None))))))))))))
