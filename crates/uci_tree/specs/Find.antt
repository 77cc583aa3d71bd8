-- What a path finds in a package (OpenWrt's uci).
use Rattle.std.specs.Prelude.{ℕ, ℤ, pos, negsuc, ◌+◌, List, [], ◌∷◌, Option, Some, None, if◌then◌else◌, bytes_eq}
use Rattle.std.specs.Prelude.{position, reverse, slice_get}
use Rattle.std.specs.Option.{option_and_then, option_map}
use Rattle.uci_tree.specs.declared.package.Opt.{Opt}
use Rattle.uci_tree.specs.declared.package.Section.{Section}
use Rattle.uci_tree.specs.declared.package.Package.{Package}
use Rattle.uci_tree.specs.declared.path.Path.{Path}
use Rattle.uci_tree.specs.declared.path.SectionRef.{SectionRef}
use Rattle.uci_tree.specs.declared.path.SectionRef.TheVariants.{Name as ByName, Place as ByPlace}
use Rattle.uci_tree.specs.declared.lookup.Place.{Place}

-- the places of the sections of a type, of which the first one has this place
abbrev pub places_from : ℕ → List ℕ → List Section → List ℕ
places_from place kind [] = []
places_from place kind (section ∷ sections) = if bytes_eq section.kind kind then place
    ∷ places_from (place + 1) kind sections else places_from (place + 1) kind sections

abbrev pub places : List ℕ → List Section → List ℕ
places kind sections = places_from 0 kind sections

-- the place of the section that has this index among those of its type: from 0, and from -1 backwards
abbrev pub place_of_kind : List Section → List ℕ → ℤ → Option ℕ
place_of_kind sections kind (pos n) = slice_get (places kind sections) n
place_of_kind sections kind (negsuc n) = slice_get (reverse (places kind sections)) n

-- the place of the first section of a name, and of the first option
abbrev pub named_place : List Section → List ℕ → Option ℕ
named_place sections name = position (λ section. bytes_eq section.name name) sections

abbrev pub option_place : List Opt → List ℕ → Option ℕ
option_place options name = position (λ option. bytes_eq option.name name) options

abbrev pub section_place : List Section → SectionRef → Option ℕ
section_place sections (ByName name) = named_place sections name
section_place sections (ByPlace kind index) = place_of_kind sections kind index

-- the place of what the path names in a section: of the section itself where it names no option
abbrev pub place_in : Section → ℕ → Option (List ℕ) → Option Place
place_in section place None = Some (record { section = place; option = None })
place_in section place (Some name) =
    option_map (λ option. record { section = place; option = Some option }) (option_place section.options name)

abbrev pub place_behind : List Section → Option (List ℕ) → ℕ → Option Place
place_behind sections option place =
    option_and_then (λ section. place_in section place option) (slice_get sections place)

-- the place of what the path names
abbrev pub place_of : Package → Path → Option Place
place_of tree path = option_and_then
    (λ reference. option_and_then (place_behind tree.sections path.option) (section_place tree.sections reference))
    path.section
