-- Levels that were found.
use Rattle.std.specs.Prelude.{ℕ, ◌≡◌, Some, List}
use Rattle.std.specs.BTreeMap.{get}
use Rattle.net_devices.specs.declared.levels.FoundLevels.{FoundLevels}
use Rattle.net_devices.specs.declared.said.Said.{Said}
use Rattle.net_devices.specs.Levels.{level_within}
use Rattle.net_devices.specs.VlanTable.{vlan_cmp}

-- each is the level of its name, looked for so many levels down
abbrev pub AreLevels : List Said → FoundLevels → Type 0
AreLevels said levels = (key : List ℕ × ℕ) (level : ℕ) → get vlan_cmp levels.found key ≡ Some level → level
    ≡ level_within said key.1 key.0
