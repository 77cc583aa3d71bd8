-- The methods of the object `session`, by name.
use Rattle.std.specs.Prelude.{ℕ, List, Option, Some, None, codes, if◌then◌else◌}
use Rattle.rpc_session.specs.declared.method.Question.TheVariants.{Listing, Access, Values}
use Rattle.rpc_session.specs.declared.method.Change.TheVariants.{Grant as ToGrant, Revoke, Set, Unset}
use Rattle.rpc_session.specs.declared.method.Method.{Method}
use Rattle.rpc_session.specs.declared.method.Method.TheVariants.{Create, Destroy, Ask, Alter}
use Rattle.rpc_session.specs.Grant.{same_text}

-- the method of a name, if there is one
abbrev pub method_of : List ℕ → Option Method
method_of name =
    if same_text name (codes "create") then Some Create
    else (if same_text name (codes "list") then Some (Ask Listing)
    else (if same_text name (codes "grant") then Some (Alter ToGrant)
    else (if same_text name (codes "revoke") then Some (Alter Revoke)
    else (if same_text name (codes "access") then Some (Ask Access)
    else (if same_text name (codes "set") then Some (Alter Set)
    else (if same_text name (codes "get") then Some (Ask Values)
    else (if same_text name (codes "unset") then Some (Alter Unset)
    else (if same_text name (codes "destroy") then Some Destroy
    else None))))))))
