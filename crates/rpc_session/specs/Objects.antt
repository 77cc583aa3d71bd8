-- The argument `objects`: pairs of an object and a function, with which a scope makes grants.
use Rattle.std.specs.Prelude.{ℕ, List, [], ◌∷◌, Option, Some, None, Bool, false, ◌&&◌, is_some}
use Rattle.std.specs.List.{list_any, list_all}
use Rattle.blob_codec.specs.declared.blob.Blob.{Blob}
use Rattle.blob_codec.specs.declared.blob.Attr.{Attr}
use Rattle.rpc_session.specs.declared.grant.Grant.{Grant}
use Rattle.rpc_session.specs.Grant.{same_text, grant_of, with}
use Rattle.rpc_session.specs.Arguments.{text_of, array_of}

-- an object and a function
abbrev pub Pair : Type 0
Pair = List ℕ × List ℕ

-- two texts, where both are there
abbrev pub both : Option (List ℕ) → Option (List ℕ) → Option Pair
both None other = None
both (Some object) None = None
both (Some object) (Some function) = Some (object, function)

-- the texts of an array that has two of them and nothing else
abbrev pub pair_in : List Attr → Option Pair
pair_in [] = None
pair_in (object ∷ []) = None
pair_in (object ∷ function ∷ []) = both (text_of object.value) (text_of function.value)
pair_in (object ∷ function ∷ other ∷ others) = None

-- the pair of an array, if it is one
abbrev pub pair_of_array : Option (List Attr) → Option Pair
pair_of_array None = None
pair_of_array (Some items) = pair_in items

-- the pair of a value that is an array of two texts
abbrev pub pair_of : Blob → Option Pair
pair_of value = pair_of_array (array_of value)

-- each item is a pair
abbrev pub are_pairs : List Attr → Bool
are_pairs items = list_all (λ item. is_some (pair_of item.value)) items

-- the pair is that of the grant
abbrev pub is_pair_of : Grant → Option Pair → Bool
is_pair_of grant None = false
is_pair_of grant (Some pair) = same_text grant.object pair.0 && same_text grant.function pair.1

-- one of the pairs is that of the grant
abbrev pub has_pair : List Attr → Grant → Bool
has_pair items grant = list_any (λ item. is_pair_of grant (pair_of item.value)) items

-- the scope and one of the pairs are those of the grant
abbrev pub is_told : List ℕ → List Attr → Grant → Bool
is_told scope items grant = same_text grant.scope scope && has_pair items grant

-- the grants with that of a scope and a pair
abbrev pub with_pair : List Grant → List ℕ → Option Pair → List Grant
with_pair grants scope None = grants
with_pair grants scope (Some pair) = with (grant_of scope pair.0 pair.1) grants

-- the grants with those of a scope and of each pair
abbrev pub with_pairs : List Grant → List ℕ → List Attr → List Grant
with_pairs grants scope [] = grants
with_pairs grants scope (item ∷ items) = with_pairs (with_pair grants scope (pair_of item.value)) scope items
