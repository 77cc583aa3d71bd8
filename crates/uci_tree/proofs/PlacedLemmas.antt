-- Printed packages, read and printed again.
use Rattle.std.proofs.Common.{ℕ, ◌≡◌, ◌+◌, List, [], ◌∷◌, ◌++◌, length, Bool, true, false, refl, ap, ap₂, ◌∙◌}
use Rattle.std.specs.List.{flat_map}
use Rattle.uci_tree.specs.declared.package.Opt.{Opt}
use Rattle.uci_tree.specs.declared.package.Section.{Section}
use Rattle.uci_tree.specs.declared.package.Package.{Package}
use Rattle.uci_tree.specs.Valid.{IsValid}
use Rattle.uci_tree.specs.Reading.{Reads}
use Rattle.uci_tree.specs.Print.{section_text, header_text, printed}
use Rattle.uci_tree.specs.Placed.{placed_name, placed_from, IsClean}
use Rattle.uci_tree.proofs.ReadingLemmas.{one_tree}
use Rattle.uci_tree.proofs.PrintLemmas.{printed_reads}

section_of : List ℕ → Bool → List ℕ → List Opt → Section
section_of name anonymous kind options = record { name = name; anonymous = anonymous; kind = kind; options = options }

again_by : (anonymous : Bool) (ordinal : ℕ) (name kind : List ℕ) (options : List Opt) → section_text false (section_of (placed_name ordinal (section_of name anonymous kind options)) anonymous kind options)
    ≡ section_text false (section_of name anonymous kind options)
unfolding section_of
again_by true ordinal name kind options = refl
again_by false ordinal name kind options = refl

-- at its place a section is printed as it was
section_again : (ordinal : ℕ) (section : Section) → section_text false (record section { name = placed_name ordinal section }) ≡ section_text false section
unfolding section_of again_by
section_again ordinal section = again_by section.anonymous ordinal section.name section.kind section.options

sections_again : (ordinal : ℕ) (sections : List Section) → flat_map (section_text false) (placed_from ordinal sections) ≡ flat_map (section_text false) sections
sections_again ordinal [] = refl
sections_again ordinal (section ∷ sections) = ap₂ (λ (x y : List ℕ). x ++ y) (section_again ordinal section) (sections_again (ordinal + 1) sections)

-- what is read of a printed text is printed as the same text
pub printed_as_before : (tree other : Package) (header : Bool) → IsValid tree → IsClean tree → Reads tree.name (printed tree header false) other → printed other header false ≡ printed tree header false
printed_as_before tree other header v c r =
    let placed : Package = record { name = tree.name; sections = placed_from 1 tree.sections; made = length tree.sections } in
    let same : other ≡ placed = one_tree tree.name (printed tree header false) placed other (printed_reads tree.name tree header v c) r in
    ap (λ (z : Package). printed z header false) same ∙ ap (λ (z : List ℕ). header_text header tree.name ++ z ++ 10 ∷ []) (sections_again 1 tree.sections)
