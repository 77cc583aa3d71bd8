-- What deltas are printed as reads back.
use Rattle.std.proofs.Common.{ℕ, ◌≡◌, ◌<◌, Bool, true, nat_eq, List, [], ◌∷◌, ◌++◌, length, length-append, Option, Some, None, refl, sym, ap, subst, append_assoc, arith}
use Rattle.std.specs.Prelude.{◌||◌}
use Rattle.std.specs.List.{AllByRecursion}
use Rattle.std.proofs.lemmas.List.{append-nil}
use Rattle.std.proofs.lemmas.Bool.Decides.{nat_tests}
use Rattle.uci_text.specs.declared.byte_class.ByteClass.TheVariants.{Name, PackageName, Plain, NotZero}
use Rattle.uci_text.specs.ByteClass.{is_in, AllIn}
use Rattle.uci_text.specs.Piece.{Piece, plain, piece_text, IsPiece}
use Rattle.uci_text.specs.Quote.{quoted}
use Rattle.uci_text.specs.Word.{SpellsWord, word_text}
use Rattle.uci_text.proofs.ClassLemmas.{all_in-append}
use Rattle.uci_text.proofs.QuoteLemmas.{quoted_spells, quoted_clean}
use Rattle.uci_delta.specs.declared.delta.Change.{Change}
use Rattle.uci_delta.specs.declared.delta.Change.TheVariants.{Set, Remove, Add, Rename, Reorder, ListAdd, ListDel}
use Rattle.uci_delta.specs.declared.delta.Delta.{Delta}
use Rattle.uci_delta.specs.Print.{mark_of, value_of, option_text, place_text, value_text, spelled}
use Rattle.uci_delta.specs.Line.{SpellsValue, IsNamedOption, IsNamed, SpellsDelta}
use Rattle.uci_delta.specs.Parts.{in_word, AreParts, at_end, at_newline, goes_on}
use Rattle.uci_delta.specs.Deltas.{Gives, AreDeltas}
use Rattle.uci_delta.specs.Printed.{IsCleanValue, IsLine, lines_of}

-- bytes that are plain, and no zero byte
abbrev IsBare : List ℕ → Type 0
IsBare bytes = AllIn Plain bytes × AllIn NotZero bytes

name_byte_bare : (byte : ℕ) → is_in PackageName byte ≡ true → (is_in Plain byte ≡ true) × (is_in NotZero byte ≡ true)
name_byte_bare byte h = (grind (arith, nat_tests), grind (arith, nat_tests))

option_byte : (byte : ℕ) → is_in Name byte ≡ true → is_in PackageName byte ≡ true
option_byte byte h = ap (λ (t : Bool). t || nat_eq byte 45) h

package_bare : (name : List ℕ) → AllIn PackageName name → IsBare name
package_bare [] h = (tt, tt)
package_bare (byte ∷ name) h =
    let one = name_byte_bare byte h.0 in
    let more = package_bare name h.1 in
    ((one.0, more.0), (one.1, more.1))

in_package_names : (name : List ℕ) → AllIn Name name → AllIn PackageName name
in_package_names [] h = tt
in_package_names (byte ∷ name) h = (option_byte byte h.0, in_package_names name h.1)

name_bare : (name : List ℕ) → AllIn Name name → IsBare name
name_bare name h = package_bare name (in_package_names name h)

both_bare : (a b : List ℕ) → IsBare a → IsBare b → IsBare (a ++ b)
both_bare a b h g = (all_in-append Plain a b h.0 g.0, all_in-append NotZero a b h.1 g.1)

mark_bare : (change : Change) → IsBare (mark_of change)
mark_bare (Set value) = (tt, tt)
mark_bare Remove = ((refl, tt), (refl, tt))
mark_bare (Add kind) = ((refl, tt), (refl, tt))
mark_bare (Rename name) = ((refl, tt), (refl, tt))
mark_bare (Reorder place) = ((refl, tt), (refl, tt))
mark_bare (ListAdd item) = ((refl, tt), (refl, tt))
mark_bare (ListDel item) = ((refl, tt), (refl, tt))

option_bare : (option : Option (List ℕ)) → IsNamedOption option → IsBare (option_text option)
option_bare None h = (tt, tt)
option_bare (Some name) h = both_bare (46 ∷ []) name ((refl, tt), (refl, tt)) (name_bare name h.1)

-- what stands in front of the value
front_of : Delta → List ℕ
front_of delta = mark_of delta.change ++ place_text delta

front_bare : (delta : Delta) → IsNamed delta → IsBare (front_of delta)
unfolding front_of
front_bare delta n =
    both_bare (mark_of delta.change) (place_text delta) (mark_bare delta.change)
    (both_bare delta.package (46 ∷ (delta.section ++ option_text delta.option)) (package_bare delta.package n.in_package.1)
    (both_bare (46 ∷ []) (delta.section ++ option_text delta.option) ((refl, tt), (refl, tt))
    (both_bare delta.section (option_text delta.option) (name_bare delta.section n.section.1) (option_bare delta.option n.option))))

some_behind : (a b : List ℕ) → 0 < length b → 0 < length (a ++ b)
some_behind a b h = let l = length-append a b in omega (arith, h, l)

front_some : (delta : Delta) → 0 < length (front_of delta)
unfolding front_of
front_some delta = some_behind (mark_of delta.change) (place_text delta) (some_behind delta.package (46 ∷ (delta.section ++ option_text delta.option)) (omega arith))

line_is : (delta : Delta) → spelled delta ≡ front_of delta ++ value_text (value_of delta.change)
unfolding front_of
line_is delta = sym (append_assoc (mark_of delta.change) (place_text delta) (value_text (value_of delta.change)))

-- the line of a delta is that delta
value_spelled : (value : Option (List ℕ)) → SpellsValue (value_text value) value
value_spelled None = refl
value_spelled (Some value) = (quoted value, refl, quoted_spells value)

value_clean : (value : Option (List ℕ)) → IsCleanValue value → AllIn NotZero (value_text value)
value_clean None h = tt
value_clean (Some value) h = (refl, quoted_clean value h)

pub line_spells : (name : List ℕ) (delta : Delta) → IsLine name delta → SpellsDelta (spelled delta) delta
line_spells name delta l = record {
  value = value_text (value_of delta.change);
  whole = refl;
  spelled = value_spelled (value_of delta.change);
  named = l.named;
  shape = l.shape;
  clean = subst (AllIn NotZero) (sym (line_is delta)) (all_in-append NotZero (front_of delta) (value_text (value_of delta.change)) (front_bare delta l.named).1 (value_clean (value_of delta.change) l.clean));
}

-- and pieces of a word do not cut it
record IsSolid (text : List ℕ) : Type 0 where
  pub pieces : List Piece
  pub whole : text ≡ word_text pieces
  pub each : AllByRecursion IsPiece pieces

plain_solid : (text : List ℕ) → 0 < length text → AllIn Plain text → IsSolid text
plain_solid text l p = record { pieces = plain text ∷ []; whole = sym (append-nil text); each = ((l, p), tt) }

led_solid : (front text : List ℕ) → 0 < length front → AllIn Plain front → IsSolid text → IsSolid (front ++ text)
led_solid front text l p s = record { pieces = plain front ∷ s.pieces; whole = ap (λ (z : List ℕ). front ++ z) s.whole; each = ((l, p), s.each) }

value_solid : (front : List ℕ) (value : Option (List ℕ)) → 0 < length front → AllIn Plain front → IsSolid (front ++ value_text value)
value_solid front None l p = subst IsSolid (sym (append-nil front)) (plain_solid front l p)
value_solid front (Some value) l p =
    let w : SpellsWord (quoted value) value = quoted_spells value in
    let s : IsSolid (quoted value) = record { pieces = w.pieces; whole = w.whole; each = w.is.each } in
    subst IsSolid (append_assoc front (61 ∷ []) (quoted value)) (led_solid (front ++ 61 ∷ []) (quoted value) (some_behind front (61 ∷ []) (omega arith)) (all_in-append Plain front (61 ∷ []) p (refl, tt)) s)

solid_on : (pieces : List Piece) (rest part : List ℕ) (more : List (List ℕ)) → AllByRecursion IsPiece pieces → AreParts rest (part ∷ more) → AreParts (word_text pieces ++ rest) ((word_text pieces ++ part) ∷ more)
solid_on [] rest part more h a = a
solid_on (piece ∷ pieces) rest part more h a =
    goes_on (word_text (piece ∷ pieces) ++ rest) (piece_text piece) (word_text pieces ++ rest) (word_text pieces ++ part) ((word_text (piece ∷ pieces) ++ part) ∷ more) more
    (append_assoc (piece_text piece) (word_text pieces) rest)
    (in_word piece h.0 refl)
    (solid_on pieces rest part more h.1 a)
    (ap (λ (z : List ℕ). z ∷ more) (append_assoc (piece_text piece) (word_text pieces) part))

solid_line : (text rest : List ℕ) (more : List (List ℕ)) → IsSolid text → AreParts rest more → AreParts (text ++ 10 ∷ rest) (text ∷ more)
solid_line text rest more s a =
    let e : AreParts (10 ∷ rest) ([] ∷ more) = at_newline (10 ∷ rest) rest ([] ∷ more) more refl a refl in
    let b : AreParts (word_text s.pieces ++ 10 ∷ rest) ((word_text s.pieces ++ []) ∷ more) = solid_on s.pieces (10 ∷ rest) [] more s.each e in
    let c : AreParts (text ++ 10 ∷ rest) ((text ++ []) ∷ more) = subst (λ (z : List ℕ). AreParts (z ++ 10 ∷ rest) ((z ++ []) ∷ more)) (sym s.whole) b in
    subst (λ (z : List ℕ). AreParts (text ++ 10 ∷ rest) (z ∷ more)) (append-nil text) c

line_solid : (name : List ℕ) (delta : Delta) → IsLine name delta → IsSolid (spelled delta)
line_solid name delta l = subst IsSolid (sym (line_is delta)) (value_solid (front_of delta) (value_of delta.change) (front_some delta) (front_bare delta l.named).0)

-- behind the last newline stands no delta
no_bytes : (a b : List ℕ) → 0 < length b → [] ≡ a ++ b → ⊥
no_bytes a b h e = let l = length-append a b in let n : 0 ≡ length (a ++ b) = ap length e in omega (arith, h, l, n)

nothing_behind : (name : List ℕ) → Gives name [] None
nothing_behind name = λ delta n s. no_bytes (mark_of delta.change) (place_text delta ++ s.value) (some_before (place_text delta) s.value (some_behind delta.package (46 ∷ (delta.section ++ option_text delta.option)) (omega arith))) s.whole
  where
    some_before : (a b : List ℕ) → 0 < length a → 0 < length (a ++ b)
    some_before a b h = let l = length-append a b in omega (arith, h, l)

pub lines_read : (name : List ℕ) (deltas : List Delta) → AllByRecursion (IsLine name) deltas → AreDeltas name (lines_of deltas) deltas
lines_read name [] h = record { parts = [] ∷ []; cut = at_end [] ([] ∷ []) refl refl; found = None ∷ []; each = (nothing_behind name, tt); are = refl }
lines_read name (delta ∷ deltas) h =
    let r : AreDeltas name (lines_of deltas) deltas = lines_read name deltas h.1 in
    record {
      parts = spelled delta ∷ r.parts;
      cut = subst (λ (z : List ℕ). AreParts z (spelled delta ∷ r.parts)) (sym (append_assoc (spelled delta) (10 ∷ []) (lines_of deltas))) (solid_line (spelled delta) (lines_of deltas) r.parts (line_solid name delta h.0) r.cut);
      found = Some delta ∷ r.found;
      each = ((h.0.in_package, line_spells name delta h.0), r.each);
      are = ap (λ (z : List Delta). delta ∷ z) r.are;
    }
