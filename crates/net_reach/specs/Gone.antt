-- Places where one is gone.
use Rattle.std.specs.Prelude.{ℕ, ◌-◌, Bool, Option, Some, None, nat_lt, if◌then◌else◌}
use Rattle.std.specs.Option.{option_map}

-- a place, one less where it is behind the one that is gone
abbrev pub lowered : ℕ → ℕ → ℕ
lowered gone place = if nat_lt gone place then place - 1 else place

-- what is left of the place of a name: the place that is gone, whether it was of this name, and
-- the place so far
abbrev pub place_left : Option ℕ → Bool → Option ℕ → Option ℕ
place_left None same place = place
place_left (Some gone) same place = if same then None else option_map (lowered gone) place
