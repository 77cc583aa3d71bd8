-- The rows that belong to a name, as the program keeps them.
use Rattle.std.specs.Prelude.{ℕ, ◌≡◌, List, map, filter, Bool, not, ◌&&◌, Some, Vec}
use Rattle.std.specs.List.{slice_get}
use Rattle.std.specs.BTreeMap.{BTreeMap}
use Rattle.std.specs.declared.alloc.Global.{Global}
use Rattle.net_rows.specs.declared.rows.Conf.{Conf}
use Rattle.net_rows.specs.declared.rows.RouteRow.{RouteRow}
use Rattle.net_rules.specs.Rows.{is_faultless, is_place_of}
use Rattle.net_view.specs.RadioPorts.{group_in}

-- at the places that a map has for a name are the items that a test tells for it, in their order
abbrev pub HasItems : {X : Type 0} → BTreeMap (List ℕ) (Vec ℕ Global) → (List ℕ → X → Bool) → List X → Type 0
HasItems groups test xs = (name : List ℕ) → map (slice_get xs) (group_in groups name) ≡ map Some (filter (test name) xs)

-- the route of a section that names the interface of a name, has no fault and is not disabled
abbrev pub is_route_named : Conf → List ℕ → RouteRow → Bool
is_route_named conf name r = is_faultless r.faults && (not r.disabled && is_place_of conf name r.interface)
