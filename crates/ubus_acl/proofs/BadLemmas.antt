-- The first item that is no record.
use Rattle.std.proofs.Common.{ℕ, zero, suc, ◌+◌, ◌<◌, ◌≡◌, ◌⊎◌, inl, inr, List, [], ◌∷◌, Option, Some, None, IsSome, Result, Ok, Err, refl, sym, ap, subst, ◌∙◌, arith}
use Rattle.serde_json.specs.Data.{Data, Items, no_items, item}
use Rattle.serde_json.specs.Find.{get_item}
use Rattle.ubus_acl.specs.declared.access_error.AclError.{AclError}
use Rattle.ubus_acl.specs.declared.access_error.AclError.TheVariants.{BadRecord}
use Rattle.ubus_acl.specs.declared.record.Record.{Record}
use Rattle.ubus_acl.specs.Form.{record_of, record_first, records_from, IsFirstBad}

-- an item in front is a record, and the fault is later
put_in_front : (first : Data) (items : Items) (index : ℕ) → IsSome (record_of first) → IsFirstBad items index → IsFirstBad (item first items) (suc index)
put_in_front first items index good later = record { bad = later.bad; before = before }
  where
    before : (i : ℕ) → i < suc index → (value : Data) × (get_item i (item first items) ≡ Some value) × IsSome (record_of value)
    before zero h = (first, refl, good)
    before (suc i) h = later.before i (omega arith)

there : (found : Option Record) (x : Record) → found ≡ Some x → IsSome found
there found x h = subst IsSome (sym h) refl

-- what is told of an item and those behind it
data Told (found : Option Record) (rest : Result (List Record) AclError) (start index : ℕ) : Type 0 where
  here : found ≡ None → index ≡ start → Told found rest start index
  later : (x : Record) → found ≡ Some x → rest ≡ Err (BadRecord index) → Told found rest start index

place_of : (rest : Result (List Record) AclError) (found : Option Record) (start index : ℕ) → record_first start found rest ≡ Err (BadRecord index) → Told found rest start index
place_of rest None start index h = here refl cc
place_of (Ok others) (Some x) start index h = absurd (cc h)
place_of (Err error) (Some x) start index h = later x refl h

-- it is the item that is told, counted from where one starts
from : (items : Items) (start index : ℕ) → records_from start items ≡ Err (BadRecord index) → (k : ℕ) × (index ≡ start + k) × IsFirstBad items k
from no_items start index h = absurd (cc h)
from (item first items) start index h = by_place (place_of (records_from (start + 1) items) (record_of first) start index h) (from items (start + 1) index)
  where
    by_place : Told (record_of first) (records_from (start + 1) items) start index
        → (records_from (start + 1) items ≡ Err (BadRecord index) → (k : ℕ) × (index ≡ start + 1 + k) × IsFirstBad items k)
        → (k : ℕ) × (index ≡ start + k) × IsFirstBad (item first items) k
    by_place (here none same) others = (0, omega (arith, same), record { bad = (first, refl, none); before = λ i h. absurd (omega (arith, h)) })
    by_place (later x is more) others =
        let found = others more in
        let place = found.1 in
        (suc found.0, omega (arith, place), put_in_front first items found.0 (there (record_of first) x is) found.2)

pub first_bad : (items : Items) (index : ℕ) → records_from 0 items ≡ Err (BadRecord index) → IsFirstBad items index
first_bad items index h =
    let found = from items 0 index h in
    let place = found.1 in
    subst (IsFirstBad items) (omega (arith, place)) found.2
