-- How much is left to do between what is held and what is wanted.
use Rattle.std.specs.Prelude.{ℕ, ◌+◌}
use Rattle.std.specs.FinSet as set
use Rattle.kern_model.specs.ObjectOrder.{Objects}

-- how many objects are in one of what is held and what is wanted, and not in the other
abbrev pub due_count : Objects → Objects → ℕ
due_count held wanted =
    set.len (set.difference held wanted) + set.len (set.difference wanted held)
