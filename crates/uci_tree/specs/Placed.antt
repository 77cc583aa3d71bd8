-- How printed packages read (OpenWrt's UCI file syntax).
use Rattle.std.specs.Prelude.{ℕ, ◌≡◌, ◌≢◌, ◌+◌, false, List, [], ◌∷◌, ◌++◌, length, if◌then◌else◌}
use Rattle.std.specs.List.{AllByRecursion}
use Rattle.uci_tree.specs.declared.package.Section.{Section}
use Rattle.uci_tree.specs.declared.package.Package.{Package}
use Rattle.uci_tree.specs.Anonymous.{anonymous_name}

-- the name that a section has where it is read as this one, from 1: an anonymous one has the name of its place
abbrev pub placed_name : ℕ → Section → List ℕ
placed_name ordinal section = if section.anonymous then anonymous_name ordinal section.kind else section.name

-- the sections as they are read, the first of them as this one
abbrev pub placed_from : ℕ → List Section → List Section
placed_from ordinal [] = []
placed_from ordinal (section ∷ sections) = record section { name = placed_name ordinal section }
    ∷ placed_from (ordinal + 1) sections

-- the package of this name that a printed text reads as
abbrev pub placed : List ℕ → Package → Package
placed name tree = record { name = name; sections = placed_from 1 tree.sections; made = length tree.sections }

-- no section that is read before a named one has its name
abbrev pub IsClean : Package → Type 0
IsClean tree = (front : List Section) (section : Section) (behind : List Section) → tree.sections ≡ front ++ section
    ∷ behind → section.anonymous ≡ false → AllByRecursion (λ earlier. earlier.name ≢ section.name) (placed_from 1 front)
