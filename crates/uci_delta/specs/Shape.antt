-- Which changes a section and an option have.
use Rattle.std.specs.Prelude.{ℕ, List, Option, Some, None}
use Rattle.uci_delta.specs.declared.delta.Change.{Change}
use Rattle.uci_delta.specs.declared.delta.Change.TheVariants.{Set, Remove, Add, Rename, Reorder, ListAdd, ListDel}
use Rattle.uci_delta.specs.declared.delta.Delta.{Delta}

-- a section is added and moved, an option has items, and the others are for both
abbrev pub Fits : Change → Option (List ℕ) → Type 0
Fits (Set value) option = Unit {0}
Fits Remove option = Unit {0}
Fits (Add kind) None = Unit {0}
Fits (Add kind) (Some name) = ⊥
Fits (Rename name) option = Unit {0}
Fits (Reorder place) None = Unit {0}
Fits (Reorder place) (Some name) = ⊥
Fits (ListAdd item) None = ⊥
Fits (ListAdd item) (Some name) = Unit {0}
Fits (ListDel item) None = ⊥
Fits (ListDel item) (Some name) = Unit {0}

abbrev pub HasShape : Delta → Type 0
HasShape delta = Fits delta.change delta.option
