-- Grants, which say who may do what (OpenWrt's rpcd, sessions).
use Rattle.std.specs.Prelude.{ℕ, List, [], ◌∷◌, ◌++◌, Bool, ◌&&◌, nat_eq, if◌then◌else◌}
use Rattle.std.specs.List.{list_any}
use Rattle.std.specs.Cmp.Lexicographic.{pointwise}
use Rattle.plane_words.specs.Pattern.{fits}
use Rattle.rpc_session.specs.declared.grant.Grant.{Grant}

-- the texts have the same bytes
abbrev pub same_text : List ℕ → List ℕ → Bool
same_text = pointwise nat_eq

-- the grant of a scope, an object and a function
abbrev pub grant_of : List ℕ → List ℕ → List ℕ → Grant
grant_of scope object function = record { scope = scope; object = object; function = function }

-- the grants have the same texts
abbrev pub same_grant : Grant → Grant → Bool
same_grant one other = same_text one.scope other.scope && same_text one.object other.object
    && same_text one.function other.function

-- the grant has the scope that is wanted, and its patterns fit the object and the function
abbrev pub permits : Grant → Grant → Bool
permits grant wanted = same_text grant.scope wanted.scope && fits grant.object wanted.object
    && fits grant.function wanted.function

-- the grant is one of these
abbrev pub holds : List Grant → Grant → Bool
holds grants grant = list_any (λ held. same_grant held grant) grants

-- the grants with another one at their end, where they lack it
abbrev pub with : Grant → List Grant → List Grant
with grant grants = if holds grants grant then grants else grants ++ grant ∷ []
