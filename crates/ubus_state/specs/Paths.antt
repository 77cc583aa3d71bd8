-- Objects by path.
use Rattle.std.specs.Prelude.{ℕ, ◌≡◌, List, Bool, false, Option, Some, None, ⊤, map, filter, if◌then◌else◌}
use Rattle.std.specs.Option.{option_to_list}
use Rattle.std.specs.Ordering.{nat_cmp}
use Rattle.std.specs.Cmp.Lexicographic.{slice_cmp}
use Rattle.std.specs.List.{list_any}
use Rattle.std.specs.BTreeMap.{BTreeMap, get}
use Rattle.ubus_table.specs.Table.{is_path_of}
use Rattle.ubus_table.specs.declared.rows.Object.{Object}
use Rattle.ubus_state.specs.Rising.{object_number}

-- the object has the path
abbrev pub has_path : List ℕ → Object → Bool
has_path path object = is_path_of path object.path

-- no object has the path, where there is one
abbrev pub IsFree : Option (List ℕ) → List Object → Type 0
IsFree None objects = ⊤
IsFree (Some path) objects = list_any (has_path path) objects ≡ false

-- the number at a path
abbrev pub number_at : BTreeMap (List ℕ) ℕ → List ℕ → Option ℕ
number_at paths path = get (slice_cmp nat_cmp) paths path

-- each path has no object or one, whose number the map has
abbrev pub HasPaths : BTreeMap (List ℕ) ℕ → List Object → Type 0
HasPaths paths objects = (path : List ℕ) → map object_number (filter (has_path path) objects)
    ≡ option_to_list (number_at paths path)

-- the second map is the first one with this value at a path, where there is a path
abbrev pub IsNoted : BTreeMap (List ℕ) ℕ → BTreeMap (List ℕ) ℕ → Option (List ℕ) → Option ℕ → Type 0
IsNoted old new path value = (other : List ℕ) → number_at new other
    ≡ (if is_path_of other path then value else number_at old other)
