-- What `uci show` prints.
use Rattle.std.specs.Prelude.{ℕ, List, [], ◌∷◌, ◌++◌, Bool, not, ◌&&◌, Option, Some, None, bytes_eq, count_by, decimal}
use Rattle.std.specs.Prelude.{take, slice_get, if◌then◌else◌}
use Rattle.std.specs.List.{flat_map}
use Rattle.std.specs.Option.{option_map, option_and_then}
use Rattle.uci_text.specs.Byte.{dot, newline, at_sign, opening_bracket, closing_bracket}
use Rattle.uci_tree.specs.declared.package.Opt.{Opt}
use Rattle.uci_tree.specs.declared.package.Section.{Section}
use Rattle.uci_tree.specs.declared.package.Package.{Package}
use Rattle.uci_tree.specs.declared.path.Path.{Path}
use Rattle.uci_tree.specs.declared.path.SectionRef.{SectionRef}
use Rattle.uci_tree.specs.declared.lookup.Place.{Place}
use Rattle.uci_tree.specs.Find.{place_of}
use Rattle.uci_delta.specs.Print.{equals_sign}
use Rattle.uci_cli.specs.declared.options.Options.{Options}
use Rattle.uci_cli.specs.Values.{shown_value}

-- `@TYPE[N]`, where N is the number of sections of its type before it
abbrev pub place_name : List Section → List ℕ → List ℕ
place_name before kind = at_sign ∷ kind ++ opening_bracket
    ∷ decimal (count_by (λ other. bytes_eq other.kind kind) before) ++ closing_bracket ∷ []

-- what a section is called behind these sections: an anonymous one by its place, unless its name is asked for
abbrev pub called : Bool → List Section → Section → List ℕ
called by_name before section = if section.anonymous && not by_name then place_name before section.kind
    else section.name

-- the package and the section
abbrev pub section_path : Options → List ℕ → List Section → Section → List ℕ
section_path options name before section = name ++ dot ∷ called options.by_name before section

-- a line of an option in a section of this path
abbrev pub option_line : List ℕ → List ℕ → Opt → List ℕ
option_line between path option = path ++ dot ∷ option.name ++ equals_sign ∷ shown_value between option.value ++ newline
    ∷ []

-- the line of a section of this path, and those of its options
abbrev pub section_lines : List ℕ → List ℕ → Section → List ℕ
section_lines between path section = path ++ equals_sign ∷ section.kind ++ newline
    ∷ flat_map (option_line between path) section.options

abbrev pub shown_section : Options → List ℕ → List Section → Section → List ℕ
shown_section options name before section =
    section_lines options.between (section_path options name before section) section

-- the lines of sections that stand behind others
abbrev pub shown_behind : Options → List ℕ → List Section → List Section → List ℕ
shown_behind options name before [] = []
shown_behind options name before (section ∷ sections) = shown_section options name before section
    ++ shown_behind options name (before ++ section ∷ []) sections

-- the lines of a package
abbrev pub shown : Options → Package → List ℕ
shown options tree = shown_behind options tree.name [] tree.sections

-- the lines of a section of this path, or the line of an option of it
abbrev pub shown_by : List ℕ → List ℕ → Section → Option ℕ → Option (List ℕ)
shown_by between path section None = Some (section_lines between path section)
shown_by between path section (Some option) = option_map (option_line between path) (slice_get section.options option)

-- the lines of what stands at a place
abbrev pub shown_at : Options → Package → Place → Option (List ℕ)
shown_at options tree place = option_and_then
    (λ section. shown_by options.between (section_path options tree.name (take place.section tree.sections) section)
    section place.option) (slice_get tree.sections place.section)

abbrev pub shown_found : Options → Package → Option SectionRef → Option Place → Option (List ℕ)
shown_found options tree None place = Some (shown options tree)
shown_found options tree (Some reference) place = option_and_then (shown_at options tree) place

-- the lines of what a path leads to, where that is there
abbrev pub shown_path : Options → Package → Path → Option (List ℕ)
shown_path options tree path = shown_found options tree path.section (place_of tree path)
