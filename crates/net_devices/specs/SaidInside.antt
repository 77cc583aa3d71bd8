-- How what sections say is kept.
use Rattle.std.specs.Prelude.{ℕ, ◌≡◌, List}
use Rattle.std.specs.Ordering.{nat_cmp}
use Rattle.std.specs.Cmp.Lexicographic.{slice_cmp}
use Rattle.std.specs.BTreeMap.{get}
use Rattle.net_devices.specs.declared.said.Said.{Said}
use Rattle.net_devices.specs.declared.said_index.SaidIndex.TheInside.{Inside}
use Rattle.net_devices.specs.Names.{section_of}
use Rattle.net_devices.specs.Found.{section_at, HasOwners}

abbrev pub said_view : Inside → List Said
said_view index = index.said

-- the section of each name and the bridge of each port are found
pub record IsIndexed (index : Inside) : Type 0 where
  pub sections : (name : List ℕ) → section_at index.said (get (slice_cmp nat_cmp) index.places name)
      ≡ section_of index.said name
  pub owners : HasOwners index.owners index.said
