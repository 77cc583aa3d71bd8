-- Objects on one side alone.
use Rattle.std.specs.Prelude.{ℕ, Option, Some, None, if◌then◌else◌}
use Rattle.std.specs.Ordering.{eq_by_cmp}
use Rattle.kern_model.specs.declared.object.Object.{Object}
use Rattle.kern_model.specs.ObjectOrder.{object_cmp}

-- how many of two objects of a slot are not on the other side
abbrev pub alone : Option Object → Option Object → ℕ
alone None None = 0
alone None (Some b) = 1
alone (Some a) None = 1
alone (Some a) (Some b) = if eq_by_cmp object_cmp a b then 0 else 2
