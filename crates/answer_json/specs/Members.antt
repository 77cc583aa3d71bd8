-- Members of objects that may be absent, and items of arrays, each read by a relation.
use Rattle.std.specs.Prelude.{◌≡◌, List, [], ◌∷◌, Option, Some, None}
use Rattle.serde_json.specs.Data.{Data, array, Items, no_items, item}

-- a member that may be absent
pub data IsOptional {A : Type 0} (Reads : Data → A → Type 0) : Option Data → Option A → Type 0 where
  absent : IsOptional Reads None None
  there : (value : Data) (a : A) → Reads value a → IsOptional Reads (Some value) (Some a)

-- a member that has a value also where it is absent
pub data IsOr {A : Type 0} (Reads : Data → A → Type 0) (default : A) : Option Data → A → Type 0 where
  absent : IsOr Reads default None default
  there : (value : Data) (a : A) → Reads value a → IsOr Reads default (Some value) a

-- items, one for one
pub data AreItems {A : Type 0} (Reads : Data → A → Type 0) : Items → List A → Type 0 where
  none : AreItems Reads no_items []
  more : (value : Data) (a : A) (items : Items) (others : List A) → Reads value a
      → AreItems Reads items others → AreItems Reads (item value items) (a ∷ others)

-- an array of them
pub record IsArray {A : Type 0} (Reads : Data → A → Type 0) (value : Data) (list : List A)
    : Type 0 where
  pub items : Items
  pub array : value ≡ array items
  pub each : AreItems Reads items list
