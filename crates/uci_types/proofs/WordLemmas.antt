-- The words of a value, one after another, and the bytes of a name.
use Rattle.std.proofs.Common.{ℕ, ◌≡◌, ◌==◌, ◌<◌, ◌&&◌, Bool, true, false, List, [], ◌∷◌, length, refl, sym, ◌∙◌, ap, arith, ne_eqb}
use Rattle.std.specs.Prelude.{not}
use Rattle.std.specs.List.{list_all}
use Rattle.std.proofs.lemmas.List.Folds.{list_all-append}
use Rattle.uci_text.specs.declared.byte_class.ByteClass.TheVariants.{Name}
use Rattle.uci_text.specs.ByteClass.{AllIn, is_name_byte}
use Rattle.uci_text.specs.Table.{IsNameOf}
use Rattle.net_rows.specs.Cut.{HasNone, CutsAtFirst}
use Rattle.net_rows.specs.Words.{space, kept, words}
use Rattle.net_rows.proofs.WordLemmas.{word_and_rest, last_word}
use Rattle.uci_types.specs.declared.datatype.Datatype.{Datatype}
use Rattle.uci_types.specs.Values.{in_set, in_each_word, is_section_name}
use Rattle.uci_types.proofs.NumberLemmas.{both}

-- the words of a cut value are the word in front, where it is not empty, and those behind
pub words_cut : (datatype : Datatype) (rest word behind : List ℕ) → CutsAtFirst space rest word behind → in_each_word datatype rest ≡ (list_all (in_set datatype) (kept (word ∷ [])) && in_each_word datatype behind)
words_cut datatype rest word behind cut =
    ap (list_all (in_set datatype)) (sym (word_and_rest [] rest word behind cut)) ∙ list_all-append (in_set datatype) (kept (word ∷ [])) (words behind)

-- a value without spaces is one word, or none where it is empty
pub words_last : (datatype : Datatype) (rest : List ℕ) → HasNone space rest → in_each_word datatype rest ≡ list_all (in_set datatype) (kept (rest ∷ []))
words_last datatype rest none = ap (list_all (in_set datatype)) (sym (last_word [] rest none))

-- one byte of a name or more
pub name_is : (bytes : List ℕ) → IsNameOf Name bytes → is_section_name bytes ≡ true
name_is [] h = absurd (omega (arith, h.0))
name_is (b ∷ bs) h = rw (ne_eqb (length (b ∷ bs)) 0 (omega arith)) (all_of (b ∷ bs) h.1)
  where
    all_of : (xs : List ℕ) → AllIn Name xs → list_all is_name_byte xs ≡ true
    all_of [] all = refl
    all_of (x ∷ xs) all = rw (all.0, all_of xs all.1) refl

pub name_from : (bytes : List ℕ) → is_section_name bytes ≡ true → IsNameOf Name bytes
name_from bytes e =
    let parts = both (not (length bytes == 0)) (list_all is_name_byte bytes) e in
    (some bytes parts.0, all_of bytes parts.1)
  where
    some : (xs : List ℕ) → not (length xs == 0) ≡ true → 0 < length xs
    some [] h = absurd (let k : false ≡ true = h in cc)
    some (x ∷ xs) h = omega arith

    all_of : (xs : List ℕ) → list_all is_name_byte xs ≡ true → AllIn Name xs
    all_of [] all = tt
    all_of (x ∷ xs) all = let parts = both (is_name_byte x) (list_all is_name_byte xs) all in (parts.0, all_of xs parts.1)

-- two tests that hold together are one
pub same_test : (a b : Bool) → (a ≡ true → b ≡ true) → (b ≡ true → a ≡ true) → a ≡ b
same_test true b to back = sym (to refl)
same_test false true to back = back refl
same_test false false to back = refl
