-- The first element of another form.
use Rattle.std.proofs.Common.{ℕ, zero, suc, ◌+◌, ◌<◌, ◌≡◌, List, Option, Some, None, IsSome, Result, Ok, Err, refl, sym, subst, arith}
use Rattle.serde_json.specs.Data.{Data, Items, no_items, item}
use Rattle.serde_json.specs.Find.{get_item}
use Rattle.rpc_login.specs.declared.group_error.GroupError.{GroupError}
use Rattle.rpc_login.specs.declared.group_error.GroupError.TheVariants.{BadGroup}
use Rattle.rpc_login.specs.declared.group.Group.{Group}
use Rattle.rpc_login.specs.Form.{file_of, file_first, groups_from, IsFirstBad}

-- an element in front is of the form, and the fault is later
put_in_front : (first : Data) (items : Items) (index : ℕ) → IsSome (file_of first) → IsFirstBad items index → IsFirstBad (item first items) (suc index)
put_in_front first items index good later = record { bad = later.bad; before = before }
  where
    before : (i : ℕ) → i < suc index → (value : Data) × (get_item i (item first items) ≡ Some value) × IsSome (file_of value)
    before zero h = (first, refl, good)
    before (suc i) h = later.before i (omega arith)

there : (found : Option (List Group)) (x : List Group) → found ≡ Some x → IsSome found
there found x h = subst IsSome (sym h) refl

-- what is told of an element and those behind it
data Told (found : Option (List Group)) (rest : Result (List Group) GroupError) (start index : ℕ) : Type 0 where
  here : found ≡ None → index ≡ start → Told found rest start index
  later : (x : List Group) → found ≡ Some x → rest ≡ Err (BadGroup index) → Told found rest start index

place_of : (rest : Result (List Group) GroupError) (found : Option (List Group)) (start index : ℕ) → file_first start found rest ≡ Err (BadGroup index) → Told found rest start index
place_of rest None start index h = here refl cc
place_of (Ok others) (Some x) start index h = absurd (cc h)
place_of (Err error) (Some x) start index h = later x refl h

-- it is the element that is told, counted from where one starts
from : (items : Items) (start index : ℕ) → groups_from start items ≡ Err (BadGroup index) → (k : ℕ) × (index ≡ start + k) × IsFirstBad items k
from no_items start index h = absurd (cc h)
from (item first items) start index h = by_place (place_of (groups_from (start + 1) items) (file_of first) start index h) (from items (start + 1) index)
  where
    by_place : Told (file_of first) (groups_from (start + 1) items) start index
        → (groups_from (start + 1) items ≡ Err (BadGroup index) → (k : ℕ) × (index ≡ start + 1 + k) × IsFirstBad items k)
        → (k : ℕ) × (index ≡ start + k) × IsFirstBad (item first items) k
    by_place (here none same) others = (0, omega (arith, same), record { bad = (first, refl, none); before = λ i h. absurd (omega (arith, h)) })
    by_place (later x is more) others =
        let found = others more in
        let place = found.1 in
        (suc found.0, omega (arith, place), put_in_front first items found.0 (there (file_of first) x is) found.2)

pub first_bad : (items : Items) (index : ℕ) → groups_from 0 items ≡ Err (BadGroup index) → IsFirstBad items index
first_bad items index h =
    let found = from items 0 index h in
    let place = found.1 in
    subst (IsFirstBad items) (omega (arith, place)) found.2
