-- The path that a text is, computed. That it is the one path that the text spells, and none where it spells none, is a
-- law.
use Rattle.std.specs.Prelude.{ℕ, ℤ, pos, neg_ℤ, ◌^◌, List, [], ◌∷◌, Option, Some, None, ◌&&◌, nat_eq, nat_le, nat_lt}
use Rattle.std.specs.Prelude.{if◌then◌else◌}
use Rattle.std.specs.Option.{option_map, option_and_then}
use Rattle.std.specs.Str.Parse.{digits_value}
use Rattle.uci_text.specs.declared.byte_class.ByteClass.TheVariants.{Name, PackageName, Printable}
use Rattle.uci_text.specs.Byte.{dash, dot, at_sign, opening_bracket, closing_bracket}
use Rattle.uci_tree.specs.declared.path.Path.{Path}
use Rattle.uci_tree.specs.declared.path.SectionRef.{SectionRef}
use Rattle.uci_tree.specs.declared.path.SectionRef.TheVariants.{Name as ByName, Place as ByPlace}
use Rattle.uci_delta.specs.Names.{is_name_of}
use Rattle.uci_delta.specs.Place.{are_digits}

-- what stands before the first of these bytes and what stands behind it
abbrev pub cut : ℕ → List ℕ → Option (List ℕ × List ℕ)
cut byte [] = None
cut byte (first ∷ rest) = if nat_eq first byte then Some ([], rest)
    else option_map (λ (parts : List ℕ × List ℕ). (first ∷ parts.0, parts.1)) (cut byte rest)

-- and before and behind the last of them
abbrev pub cut_end_at : ℕ → ℕ → List ℕ → Option (List ℕ × List ℕ) → Option (List ℕ × List ℕ)
cut_end_at byte first rest (Some parts) = Some (first ∷ parts.0, parts.1)
cut_end_at byte first rest None = if nat_eq first byte then Some ([], rest) else None

abbrev pub cut_end : ℕ → List ℕ → Option (List ℕ × List ℕ)
cut_end byte [] = None
cut_end byte (first ∷ rest) = cut_end_at byte first rest (cut_end byte rest)

-- an index: digits, perhaps behind a minus, of a number of 32 bits
abbrev pub forwards_in : List ℕ → Option ℤ
forwards_in text = if are_digits text && nat_lt (digits_value 10 text) (2 ^ 31) then Some (pos (digits_value 10 text))
    else None

abbrev pub backwards_in : List ℕ → Option ℤ
backwards_in text = if are_digits text && nat_le (digits_value 10 text) (2 ^ 31)
    then Some (neg_ℤ (pos (digits_value 10 text))) else None

abbrev pub index_in : List ℕ → Option ℤ
index_in [] = None
index_in (first ∷ rest) = if nat_eq first dash then backwards_in rest else forwards_in (first ∷ rest)

-- the type and the index of a section by its place
abbrev pub place_with : List ℕ × List ℕ → Option SectionRef
place_with parts = if is_name_of Printable parts.0 then option_map (ByPlace parts.0) (index_in parts.1) else None

abbrev pub place_before : List ℕ → List ℕ → Option SectionRef
place_before inner [] = option_and_then place_with (cut_end opening_bracket inner)
place_before inner (_ ∷ _) = None

-- what stands behind `@`
abbrev pub place_in : List ℕ → Option SectionRef
place_in text = option_and_then (λ (parts : List ℕ × List ℕ). place_before parts.0 parts.1)
    (cut_end closing_bracket text)

abbrev pub name_in : List ℕ → Option SectionRef
name_in text = if is_name_of Name text then Some (ByName text) else None

-- a section: `@TYPE[INDEX]` or a name
abbrev pub section_in : List ℕ → Option SectionRef
section_in [] = None
section_in (first ∷ rest) = if nat_eq first at_sign then place_in rest else name_in (first ∷ rest)

-- a section and an option, where what stands behind the last `.` is a name, and else a section
abbrev pub with_option : List ℕ → Option (List ℕ × List ℕ) → List ℕ × Option (List ℕ)
with_option text None = (text, None)
with_option text (Some parts) = if is_name_of Name parts.1 then (parts.0, Some parts.1) else (text, None)

abbrev pub path_with : List ℕ → List ℕ × Option (List ℕ) → Option Path
path_with name place = option_map (λ section. record { «package» = name; section = Some section; option = place.1 })
    (section_in place.0)

abbrev pub path_behind : List ℕ → Option (List ℕ × List ℕ) → Option Path
path_behind text None = if is_name_of PackageName text
    then Some (record { «package» = text; section = None; option = None }) else None
path_behind text (Some parts) = if is_name_of PackageName parts.0
    then path_with parts.0 (with_option parts.1 (cut_end dot parts.1)) else None

unfoldable pub path_in : List ℕ → Option Path
path_in text = path_behind text (cut dot text)
