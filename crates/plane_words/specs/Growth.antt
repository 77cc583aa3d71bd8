-- What a device took or gave, where it tells: the bytes of a sink, the calls of a log. A real terminal tells nothing.
use Rattle.std.specs.Prelude.{◌≡◌, List, ◌++◌, Option, Some, None}

-- what held the old items holds these after them
abbrev pub Grows : {X : Type 0} → Option (List X) → Option (List X) → List X → Type 0
Grows None new items = new ≡ None
Grows (Some old) new items = new ≡ Some (old ++ items)

-- it grew by a front of these items, perhaps by none or by all of them
pub record GrowsByFront {X : Type 0} (old new : Option (List X)) (items : List X) : Type 0 where
  pub front : List X
  pub back : List X
  pub parts : items ≡ front ++ back
  pub grows : Grows old new front

-- a source gave these items, and has the others left
abbrev pub Gives : {X : Type 0} → Option (List X) → Option (List X) → List X → Type 0
Gives None new items = new ≡ None
Gives {X} (Some old) new items = (rest : List X) × (old ≡ items ++ rest) × (new ≡ Some rest)
