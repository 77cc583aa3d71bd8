-- Changes, lines and texts of deltas that the checker computes.
use Rattle.std.proofs.Common.{ℕ, ◌≡◌, List, [], ◌∷◌, ◌++◌, true, false, Some, None, Ok, Err, codes, refl, ◌∙◌, append_assoc, arith}
use Rattle.uci_text.proofs.Examples.{tested}
use Rattle.uci_text.specs.declared.byte_class.ByteClass.TheVariants.{Name, PackageName, NotZero, Plain, Quotable}
use Rattle.uci_text.specs.Piece.{plain, single}
use Rattle.uci_tree.specs.Split.{HasNone}
use Rattle.uci_tree.specs.declared.package.Value.TheVariants.{Many}
use Rattle.uci_tree.specs.declared.package.Package.{Package}
use Rattle.uci_tree.specs.declared.package.Section.{Section}
use Rattle.uci_tree.proofs.PathLemmas.{not_there}
use Rattle.uci_delta.specs.declared.delta.Change.{Change}
use Rattle.uci_delta.specs.declared.delta.Change.TheVariants.{Set, Remove, Add, Rename, Reorder, ListAdd, ListDel}
use Rattle.uci_delta.specs.declared.delta.Delta.{Delta}
use Rattle.uci_delta.specs.declared.delta_error.DeltaError.TheVariants.{NotFound, Invalid, Duplicate}
use Rattle.uci_delta.specs.Applied.{applied}
use Rattle.uci_delta.specs.Print.{kind_of, sign_of, option_text, spelled, shown}
use Rattle.uci_delta.specs.Parts.{AreParts}
use Rattle.uci_delta.specs.Line.{SpellsDelta}
use Rattle.uci_delta.specs.Deltas.{Gives, AreDeltas}
use Rattle.uci_delta.proofs.LineLemmas.{head_whole}
use Rattle.uci_delta.proofs.PartLemmas.{has_parts}

-- a change of a section, and one of an option
abbrev of_section : List ℕ → Change → Delta
of_section section change = record { «package» = codes "p"; section = section; option = None; change = change }

abbrev of_option : List ℕ → List ℕ → Change → Delta
of_option section option change = record { «package» = codes "p"; section = section; option = Some option; change = change }

abbrev named : List ℕ → List ℕ → Section
named name kind = record { name = name; anonymous = false; kind = kind; options = [] }

abbrev package_of : List Section → ℕ → Package
package_of sections made = record { name = codes "p"; sections = sections; made = made }

abbrev listed : Section
listed = record { name = codes "a"; anonymous = true; kind = codes "x"; options = record { name = codes "l"; value = Many (codes "1" ∷ codes "2" ∷ codes "1" ∷ []) } ∷ [] }

abbrev tree : Package
tree = package_of (listed ∷ named (codes "b") (codes "y") ∷ named (codes "c") (codes "z") ∷ []) 3

-- each equal item goes from a list
each_goes : applied tree (of_option (codes "a") (codes "l") (ListDel (codes "1")))
    ≡ Ok (package_of (record { name = codes "a"; anonymous = true; kind = codes "x"; options = record { name = codes "l"; value = Many (codes "2" ∷ []) } ∷ [] } ∷ named (codes "b") (codes "y") ∷ named (codes "c") (codes "z") ∷ []) 3)
each_goes = refl

-- a section that moves from the first place to the second
moved : applied tree (of_section (codes "a") (Reorder (codes "1"))) ≡ Ok (package_of (named (codes "b") (codes "y") ∷ listed ∷ named (codes "c") (codes "z") ∷ []) 3)
moved = refl

-- a new anonymous section
added : applied tree (of_section (codes "d") (Add (codes "z")))
    ≡ Ok (package_of (listed ∷ named (codes "b") (codes "y") ∷ named (codes "c") (codes "z") ∷ record { name = codes "d"; anonymous = true; kind = codes "z"; options = [] } ∷ []) 4)
added = refl

-- a name that is there, a section that is not there, and the shape before both
there : applied tree (of_section (codes "b") (Rename (codes "b"))) ≡ Err Duplicate
there = refl

lacking : (applied tree (of_section (codes "e") Remove) ≡ Err NotFound) × (applied tree (of_option (codes "e") (codes "l") (Set (codes "1"))) ≡ Err Invalid)
lacking = (refl, refl)

shapeless : applied tree (of_option (codes "e") (codes "l") (Add (codes "z"))) ≡ Err Invalid
shapeless = refl

-- lines of a file, and those that `changes` shows
lines : (spelled (of_option (codes "a") (codes "l") (ListAdd (codes "it's"))) ≡ codes "|p.a.l='it'\\''s'") × (spelled (of_section (codes "a") Remove) ≡ codes "-p.a")
lines = (refl, refl)

shown_lines : (shown (of_option (codes "a") (codes "l") (ListAdd (codes "1"))) ≡ codes "p.a.l+='1'") × (shown (of_section (codes "a") (Rename (codes "n"))) ≡ codes "p.a='n'")
shown_lines = (refl, refl)

-- a newline in a quote does not cut, and a quote that does not end reaches to the end
cut_outside : AreParts (codes "a\n'b\nc'\n") (codes "a" ∷ codes "'b\nc'" ∷ [] ∷ [])
cut_outside = has_parts (codes "a\n'b\nc'\n")

open_to_the_end : AreParts (codes "a\nb\"c\n\\") (codes "a" ∷ codes "b\"c\n\\" ∷ [])
open_to_the_end = has_parts (codes "a\nb\"c\n\\")

-- a part without `.` is no delta
no_dot : (name part : List ℕ) → HasNone 46 part → Gives name part None
no_dot name part h = λ delta n s. not_there 46 part (sign_of (kind_of delta.change) ++ delta.package) ((delta.section ++ option_text delta.option) ++ s.value)
    (s.whole ∙ head_whole delta s.value ∙ append_assoc (sign_of (kind_of delta.change) ++ delta.package) (46 ∷ (delta.section ++ option_text delta.option)) s.value) h

-- a value may be any word
any_word : SpellsDelta (codes "p.a.l=1'2'") (of_option (codes "a") (codes "l") (Set (codes "12")))
any_word = record {
  value = codes "=1'2'";
  whole = refl;
  spelled = (
    codes "1'2'",
    refl,
    record {
      pieces = plain (codes "1") ∷ single (codes "2") ∷ [];
      whole = refl;
      is = record { some = omega arith; each = ((omega arith, tested Plain (codes "1") refl), (tested Quotable (codes "2") refl, tt)) };
      value_is = refl;
    },
  );
  named = record { in_package = (omega arith, tested PackageName (codes "p") refl); section = (omega arith, tested Name (codes "a") refl); option = (omega arith, tested Name (codes "l") refl) };
  shape = tt;
  clean = tested NotZero (codes "p.a.l=1'2'") refl;
}

removal : SpellsDelta (codes "-p.b") (of_section (codes "b") Remove)
removal = record {
  value = [];
  whole = refl;
  spelled = refl;
  named = record { in_package = (omega arith, tested PackageName (codes "p") refl); section = (omega arith, tested Name (codes "b") refl); option = tt };
  shape = tt;
  clean = tested NotZero (codes "-p.b") refl;
}

-- a bad line is passed over, and the quote in it swallows a newline
bad_line : AreDeltas (codes "p") (codes "'-p\n'\n-p.b\n") (of_section (codes "b") Remove ∷ [])
bad_line = record {
  parts = codes "'-p\n'" ∷ codes "-p.b" ∷ [] ∷ [];
  cut = has_parts (codes "'-p\n'\n-p.b\n");
  found = None ∷ Some (of_section (codes "b") Remove) ∷ None ∷ [];
  each = (no_dot (codes "p") (codes "'-p\n'") lacks, ((refl, removal), (no_dot (codes "p") [] tt, tt)));
  are = refl;
}
  where
    lacks : HasNone 46 (codes "'-p\n'")
    lacks = (λ e. absurd (omega (arith, e)), (λ e. absurd (omega (arith, e)), (λ e. absurd (omega (arith, e)), (λ e. absurd (omega (arith, e)), (λ e. absurd (omega (arith, e)), tt)))))
