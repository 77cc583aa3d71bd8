-- What is held, and what may be wanted.
use Rattle.std.specs.Prelude.{ℕ, List, [], Bool, ◌&&◌, false, slice_index_or}
use Rattle.std.specs.List.{filter_map}
use Rattle.kern_model.specs.declared.object.Object.{Object}
use Rattle.kern_model.specs.ObjectOrder.{Objects, set_of}
use Rattle.graph_objects.specs.declared.slot.Wish.{Wish}
use Rattle.graph_objects.specs.Slots.{wished}

-- the objects that are held, and those that may be wanted
pub record Marks : Type 0 where
  pub held : List Object
  pub wishes : List Wish

abbrev pub no_marks : Marks
no_marks = record { held = []; wishes = [] }

-- the objects that are held
abbrev pub held_of : Marks → Objects
held_of m = set_of m.held

-- the objects that are wanted
abbrev pub wanted_of : Marks → Objects
wanted_of m = set_of (filter_map wished m.wishes)

-- whether the name of an id is used, by a list of all ids
abbrev pub is_used : List Bool → ℕ → Bool
is_used used id = slice_index_or used id false

-- an object is wanted where both names are used
abbrev pub judged : List Bool → Wish → Wish
judged used w = record w { wanted = is_used used w.first && is_used used w.second }
