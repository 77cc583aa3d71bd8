-- Packages as text (OpenWrt's UCI file syntax).
use Rattle.std.specs.Prelude.{ℕ, Bool, List, [], ◌∷◌, ◌++◌, codes, not, nat_eq, ◌&&◌, ◌||◌, if◌then◌else◌}
use Rattle.std.specs.List.{flat_map, list_any}
use Rattle.uci_text.specs.Byte.{tab, newline, space, double_quote, number_sign, single_quote, semicolon, backslash}
use Rattle.uci_text.specs.Quote.{quoted}
use Rattle.uci_tree.specs.declared.package.Value.{Value}
use Rattle.uci_tree.specs.declared.package.Value.TheVariants.{One, Many}
use Rattle.uci_tree.specs.declared.package.Opt.{Opt}
use Rattle.uci_tree.specs.declared.package.Section.{Section}
use Rattle.uci_tree.specs.declared.package.Package.{Package}

-- ' " # ; or \, which a bare word cannot hold
abbrev pub is_special : ℕ → Bool
is_special byte =
    nat_eq byte single_quote || nat_eq byte double_quote || nat_eq byte number_sign
    || nat_eq byte semicolon || nat_eq byte backslash

-- a type stands bare, and one that holds such a byte is quoted
abbrev pub kind_text : List ℕ → List ℕ
kind_text kind = if list_any is_special kind then quoted kind else kind

-- a tab, the keyword, the name and the quoted value
abbrev pub option_line : List ℕ → List ℕ → List ℕ → List ℕ
option_line keyword name value = tab ∷ keyword ++ space ∷ name ++ space ∷ quoted value ++ newline ∷ []

-- a value is one line, and a list is one line for each item
abbrev pub value_text : List ℕ → Value → List ℕ
value_text name (One value) = option_line (codes "option") name value
value_text name (Many items) = flat_map (option_line (codes "list") name) items

abbrev pub option_text : Opt → List ℕ
option_text option = value_text option.name option.value

-- the quoted name behind a type; an anonymous section has none, unless names are asked for
abbrev pub name_text : Bool → Section → List ℕ
name_text names section = if section.anonymous && not names then [] else space ∷ quoted section.name

abbrev pub head_text : Bool → Section → List ℕ
head_text names section = codes "config " ++ kind_text section.kind ++ name_text names section ++ newline ∷ []

-- an empty line, the type and the name, and the options
abbrev pub section_text : Bool → Section → List ℕ
section_text names section = newline ∷ head_text names section ++ flat_map option_text section.options

-- the line of the package's name, where a header is asked for
abbrev pub header_text : Bool → List ℕ → List ℕ
header_text header name = if header then codes "package " ++ name ++ newline ∷ [] else []

-- the header, the sections, and an empty line at the end
abbrev pub printed : Package → Bool → Bool → List ℕ
printed tree header names = header_text header tree.name ++ flat_map (section_text names) tree.sections ++ newline ∷ []
