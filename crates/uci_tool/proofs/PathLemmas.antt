-- The path that is computed is the one that the text spells.
use Rattle.std.proofs.Common.{ℕ, ℤ, ◌≡◌, ◌≢◌, ◌<◌, ◌≤◌, ◌^◌, Bool, true, false, not, cond, List, [], ◌∷◌, ◌++◌, length, Option, Some, None, refl, sym, ap, subst, ◌∙◌, arith, nat_eq, nat_lt}
use Rattle.std.specs.Prelude.{MatchOption, ◌&&◌, nat_le, pos, neg_ℤ}
use Rattle.std.specs.Option.{option_map, option_and_then}
use Rattle.std.specs.List.{list_all}
use Rattle.std.specs.Char.{digit_value}
use Rattle.std.specs.Str.Parse.{AllDigits, IsNumeral, digits_value}
use Rattle.std.proofs.lemmas.Bool.Decides.{nat_tests}
use Rattle.std.proofs.lemmas.List.{append-nil}
use Rattle.uci_text.specs.declared.byte_class.ByteClass.TheVariants.{Name, PackageName, Printable}
use Rattle.uci_text.specs.Table.{IsNameOf}
use Rattle.uci_tree.specs.declared.path.Path.{Path}
use Rattle.uci_tree.specs.declared.path.SectionRef.{SectionRef}
use Rattle.uci_tree.specs.declared.path.SectionRef.TheVariants.{Name as ByName, Place as ByPlace}
use Rattle.uci_tree.specs.Path.{SpellsIndex, forwards, backwards, SpellsRef, SpellsPath}
use Rattle.uci_tree.specs.Split.{HasNone, CutsAtFirst, CutsAtLast, CutsOption}
use Rattle.uci_tree.proofs.PathLemmas as paths
use Rattle.uci_delta.specs.Names.{is_name_of}
use Rattle.uci_delta.specs.Place.{are_digits}
use Rattle.uci_delta.proofs.NameLemmas.{both, first_true, second_true, not_empty, some_from, name_passes, name_from}
use Rattle.uci_tool.specs.Paths.{cut, cut_end_at, cut_end, forwards_in, backwards_in, index_in, place_with, place_before, place_in, name_in, section_in, with_option, path_with, path_behind, path_in}

-- ---- answers that are there or not

choose : {X : Type 0} (t : Bool) (a b : Option X) (P : Type 0) (Q : X → Type 0) → (t ≡ true → MatchOption a P Q) → (t ≡ false → MatchOption b P Q) → MatchOption (cond t a b) P Q
choose true a b P Q yes' no' = yes' refl
choose false a b P Q yes' no' = no' refl

through : {A X : Type 0} (o : Option A) (f : A → X) (P : Type 0) (Q : X → Type 0) → MatchOption o P (λ a. Q (f a)) → MatchOption (option_map f o) P Q
through None f P Q h = h
through (Some a) f P Q h = h

behind : {A X : Type 0} (o : Option A) (f : A → Option X) (P : Type 0) (R : A → Type 0) (Q : X → Type 0) → MatchOption o P R → ((a : A) → R a → MatchOption (f a) P Q) → MatchOption (option_and_then f o) P Q
behind None f P R Q h next = h
behind (Some a) f P R Q h next = next a h

same : (a b : ℕ) → nat_eq a b ≡ true → a ≡ b
same a b e = grind (arith, nat_tests)

apart : (a b : ℕ) → nat_eq a b ≡ false → a ≢ b
apart a b e = λ f. absurd (grind (arith, nat_tests))

not_both : (t : Bool) → t ≡ true → t ≡ false → ⊥
not_both t e f = let g : true ≡ false = sym e ∙ f in cc

-- ---- cuts

cut_step : (byte x : ℕ) (rest : List ℕ) (o : Option (List ℕ × List ℕ)) → nat_eq x byte ≡ false → MatchOption o (HasNone byte rest) (λ parts. CutsAtFirst byte rest parts.0 parts.1)
    → MatchOption {T = List ℕ × List ℕ} (option_map (λ (parts : List ℕ × List ℕ). (x ∷ parts.0, parts.1)) o) (HasNone byte (x ∷ rest)) (λ parts. CutsAtFirst byte (x ∷ rest) parts.0 parts.1)
cut_step byte x rest None e h = (apart x byte e, h)
cut_step byte x rest (Some parts) e h = record { whole = ap (λ (z : List ℕ). x ∷ z) h.whole; first = (apart x byte e, h.first) }

cut_right : (byte : ℕ) (text : List ℕ) → MatchOption (cut byte text) (HasNone byte text) (λ parts. CutsAtFirst byte text parts.0 parts.1)
cut_right byte [] = tt
cut_right byte (x ∷ rest) = choose (nat_eq x byte) (Some ([], rest)) (option_map (λ (parts : List ℕ × List ℕ). (x ∷ parts.0, parts.1)) (cut byte rest)) (HasNone byte (x ∷ rest)) (λ parts. CutsAtFirst byte (x ∷ rest) parts.0 parts.1)
    (λ e. record { whole = ap (λ (z : ℕ). z ∷ rest) (same x byte e); first = tt })
    (λ e. cut_step byte x rest (cut byte rest) e (cut_right byte rest))

end_step : (byte x : ℕ) (rest : List ℕ) (o : Option (List ℕ × List ℕ)) → MatchOption o (HasNone byte rest) (λ parts. CutsAtLast byte rest parts.0 parts.1)
    → MatchOption (cut_end_at byte x rest o) (HasNone byte (x ∷ rest)) (λ parts. CutsAtLast byte (x ∷ rest) parts.0 parts.1)
end_step byte x rest (Some parts) h = record { whole = ap (λ (z : List ℕ). x ∷ z) h.whole; last = h.last }
end_step byte x rest None h = choose (nat_eq x byte) (Some ([], rest)) None (HasNone byte (x ∷ rest)) (λ parts. CutsAtLast byte (x ∷ rest) parts.0 parts.1)
    (λ e. record { whole = ap (λ (z : ℕ). z ∷ rest) (same x byte e); last = h })
    (λ e. (apart x byte e, h))

end_right : (byte : ℕ) (text : List ℕ) → MatchOption (cut_end byte text) (HasNone byte text) (λ parts. CutsAtLast byte text parts.0 parts.1)
end_right byte [] = tt
end_right byte (x ∷ rest) = end_step byte x rest (cut_end byte rest) (end_right byte rest)

-- the first cut, as a fact about any cut
pub cut_is : (byte : ℕ) (text front back : List ℕ) → CutsAtFirst byte text front back → cut byte text ≡ Some (front, back)
cut_is byte text front back c = go (cut byte text) (cut_right byte text)
  where
    go : (o : Option (List ℕ × List ℕ)) → MatchOption o (HasNone byte text) (λ parts. CutsAtFirst byte text parts.0 parts.1) → o ≡ Some (front, back)
    go None h = absurd (paths.not_there byte text front back c.whole h)
    go (Some parts) h =
        let one = paths.one_first byte parts.0 parts.1 front back h.first c.first (sym h.whole ∙ c.whole) in
        ap (λ (z : List ℕ). Some (z, parts.1)) one.0 ∙ ap (λ (z : List ℕ). Some (front, z)) one.1

pub cut_none : (byte : ℕ) (text : List ℕ) → HasNone byte text → ◌≡◌ {A = Option (List ℕ × List ℕ)} (cut byte text) None
cut_none byte text h = go (cut byte text) (cut_right byte text)
  where
    go : (o : Option (List ℕ × List ℕ)) → MatchOption o (HasNone byte text) (λ parts. CutsAtFirst byte text parts.0 parts.1) → ◌≡◌ {A = Option (List ℕ × List ℕ)} o None
    go None g = refl
    go (Some parts) g = absurd (paths.not_there byte text parts.0 parts.1 g.whole h)

-- ---- an option behind a section

with_option_right : (text : List ℕ) (o : Option (List ℕ × List ℕ)) → MatchOption o (HasNone 46 text) (λ parts. CutsAtLast 46 text parts.0 parts.1) → CutsOption text (with_option text o).0 (with_option text o).1
with_option_right text None h = (refl, λ before name e n. paths.no_option text before name h e n)
with_option_right text (Some parts) h = go (is_name_of Name parts.1) refl
  where
    go : (t : Bool) → is_name_of Name parts.1 ≡ t → CutsOption text (cond {A = List ℕ × Option (List ℕ)} t (parts.0, Some parts.1) (text, None)).0 (cond {A = List ℕ × Option (List ℕ)} t (parts.0, Some parts.1) (text, None)).1
    go true e = (h.whole, name_from Name parts.1 e)
    go false e = (refl, λ before name f n. paths.other_option text parts.0 parts.1 before name h (λ m. not_both (is_name_of Name parts.1) (name_passes Name parts.1 m) e) f n)

-- ---- an index

digits_pass : (text : List ℕ) → AllDigits 10 text → list_all (λ byte. nat_lt (digit_value byte) 10) text ≡ true
digits_pass [] h = refl
digits_pass (b ∷ text) h = both (nat_lt (digit_value b) 10) (list_all (λ byte. nat_lt (digit_value byte) 10) text) (let d : digit_value b < 10 = h.0 in grind (arith, nat_tests)) (digits_pass text h.1)

digits_from : (text : List ℕ) → list_all (λ byte. nat_lt (digit_value byte) 10) text ≡ true → AllDigits 10 text
digits_from [] e = tt
digits_from (b ∷ text) e = (
  let d : nat_lt (digit_value b) 10 ≡ true = first_true (nat_lt (digit_value b) 10) (list_all (λ byte. nat_lt (digit_value byte) 10) text) e in grind (arith, nat_tests),
  digits_from text (second_true (nat_lt (digit_value b) 10) (list_all (λ byte. nat_lt (digit_value byte) 10) text) e),
)

numeral_passes : (text : List ℕ) → IsNumeral 10 text → are_digits text ≡ true
numeral_passes text h = both (not (nat_eq (length text) 0)) (list_all (λ byte. nat_lt (digit_value byte) 10) text) (not_empty text h.0) (digits_pass text h.1)

numeral_from : (text : List ℕ) → are_digits text ≡ true → IsNumeral 10 text
numeral_from text e = (
  some_from text (first_true (not (nat_eq (length text) 0)) (list_all (λ byte. nat_lt (digit_value byte) 10) text) e),
  digits_from text (second_true (not (nat_eq (length text) 0)) (list_all (λ byte. nat_lt (digit_value byte) 10) text) e),
)

below_passes : (n : ℕ) → n < 2 ^ 31 → nat_lt n (2 ^ 31) ≡ true
below_passes n h = grind (arith, nat_tests)

below_from : (n : ℕ) → nat_lt n (2 ^ 31) ≡ true → n < 2 ^ 31
below_from n h = grind (arith, nat_tests)

within_passes : (n : ℕ) → n ≤ 2 ^ 31 → nat_le n (2 ^ 31) ≡ true
within_passes n h = grind (arith, nat_tests)

within_from : (n : ℕ) → nat_le n (2 ^ 31) ≡ true → n ≤ 2 ^ 31
within_from n h = grind (arith, nat_tests)

minus_no_digit : (digits : List ℕ) → AllDigits 10 (45 ∷ digits) → ⊥
minus_no_digit digits h = let d : digit_value 45 < 10 = h.0 in absurd (omega (arith, d))

no_forwards : (text : List ℕ) (index : ℤ) → (are_digits text && nat_lt (digits_value 10 text) (2 ^ 31)) ≡ false → ((digits : List ℕ) → text ≡ 45 ∷ digits → ⊥) → SpellsIndex text index → ⊥
no_forwards text index e plain (forwards n h s f) =
    let small : digits_value 10 text < 2 ^ 31 = subst (λ (z : ℕ). z < 2 ^ 31) (sym h.1) s in
    not_both (are_digits text && nat_lt (digits_value 10 text) (2 ^ 31)) (both (are_digits text) (nat_lt (digits_value 10 text) (2 ^ 31)) (numeral_passes text h.0) (below_passes (digits_value 10 text) small)) e
no_forwards text index e plain (backwards digits n w h s f) = plain digits w

no_backwards : (rest : List ℕ) (index : ℤ) → (are_digits rest && nat_le (digits_value 10 rest) (2 ^ 31)) ≡ false → SpellsIndex (45 ∷ rest) index → ⊥
no_backwards rest index e (forwards n h s f) = minus_no_digit rest h.0.1
no_backwards rest index e (backwards digits n w h s f) =
    let list : digits ≡ rest = let v : 45 ∷ rest ≡ 45 ∷ digits = w in cc in
    let numeral : IsNumeral 10 rest = subst (λ (z : List ℕ). IsNumeral 10 z) list h.0 in
    let small : digits_value 10 rest ≤ 2 ^ 31 = subst (λ (z : ℕ). z ≤ 2 ^ 31) (sym h.1 ∙ ap (digits_value 10) list) s in
    not_both (are_digits rest && nat_le (digits_value 10 rest) (2 ^ 31)) (both (are_digits rest) (nat_le (digits_value 10 rest) (2 ^ 31)) (numeral_passes rest numeral) (within_passes (digits_value 10 rest) small)) e

forwards_right : (text : List ℕ) → ((digits : List ℕ) → text ≡ 45 ∷ digits → ⊥) → MatchOption (forwards_in text) ((index : ℤ) → SpellsIndex text index → ⊥) (SpellsIndex text)
forwards_right text plain = choose (are_digits text && nat_lt (digits_value 10 text) (2 ^ 31)) (Some (pos (digits_value 10 text))) None ((index : ℤ) → SpellsIndex text index → ⊥) (SpellsIndex text)
    (λ e. forwards (digits_value 10 text) (numeral_from text (first_true (are_digits text) (nat_lt (digits_value 10 text) (2 ^ 31)) e), refl)
    (below_from (digits_value 10 text) (second_true (are_digits text) (nat_lt (digits_value 10 text) (2 ^ 31)) e)) refl)
    (λ e index s. no_forwards text index e plain s)

backwards_right : (rest : List ℕ) → MatchOption (backwards_in rest) ((index : ℤ) → SpellsIndex (45 ∷ rest) index → ⊥) (SpellsIndex (45 ∷ rest))
backwards_right rest = choose (are_digits rest && nat_le (digits_value 10 rest) (2 ^ 31)) (Some (neg_ℤ (pos (digits_value 10 rest)))) None ((index : ℤ) → SpellsIndex (45 ∷ rest) index → ⊥) (SpellsIndex (45 ∷ rest))
    (λ e. backwards rest (digits_value 10 rest) refl (numeral_from rest (first_true (are_digits rest) (nat_le (digits_value 10 rest) (2 ^ 31)) e), refl)
    (within_from (digits_value 10 rest) (second_true (are_digits rest) (nat_le (digits_value 10 rest) (2 ^ 31)) e)) refl)
    (λ e index s. no_backwards rest index e s)

no_empty_index : (index : ℤ) → SpellsIndex [] index → ⊥
no_empty_index index (forwards n h s e) = absurd (omega (arith, h.0.0))
no_empty_index index (backwards digits n w h s e) = cc

index_right : (text : List ℕ) → MatchOption (index_in text) ((index : ℤ) → SpellsIndex text index → ⊥) (SpellsIndex text)
index_right [] = no_empty_index
index_right (x ∷ rest) = choose (nat_eq x 45) (backwards_in rest) (forwards_in (x ∷ rest)) ((index : ℤ) → SpellsIndex (x ∷ rest) index → ⊥) (SpellsIndex (x ∷ rest))
    (λ e. subst (λ (z : ℕ). MatchOption (backwards_in rest) ((index : ℤ) → SpellsIndex (z ∷ rest) index → ⊥) (SpellsIndex (z ∷ rest))) (sym (same x 45 e)) (backwards_right rest))
    (λ e. forwards_right (x ∷ rest) (λ digits w. apart x 45 e (cc)))

-- ---- a section

no_empty_section : (reference : SectionRef) → SpellsRef [] reference → ⊥
no_empty_section (ByName name) s = absurd (let n : 0 < length name = s.1.0 in let e : length name ≡ 0 = ap length (sym s.0) in omega (arith, n, e))
no_empty_section (ByPlace kind index) s = let w : [] ≡ 64 ∷ (kind ++ 91 ∷ (s.0 ++ 93 ∷ [])) = s.1 in cc

no_name : (x : ℕ) (rest : List ℕ) (reference : SectionRef) → is_name_of Name (x ∷ rest) ≡ false → x ≢ 64 → SpellsRef (x ∷ rest) reference → ⊥
no_name x rest (ByName name) e other s = not_both (is_name_of Name (x ∷ rest)) (name_passes Name (x ∷ rest) (subst (λ (z : List ℕ). IsNameOf Name z) (sym s.0) s.1)) e
no_name x rest (ByPlace kind index) e other s = let w : x ∷ rest ≡ 64 ∷ (kind ++ 91 ∷ (s.0 ++ 93 ∷ [])) = s.1 in other (cc)

name_right : (x : ℕ) (rest : List ℕ) → x ≢ 64 → MatchOption (name_in (x ∷ rest)) ((reference : SectionRef) → SpellsRef (x ∷ rest) reference → ⊥) (SpellsRef (x ∷ rest))
name_right x rest other = choose (is_name_of Name (x ∷ rest)) (Some (ByName (x ∷ rest))) None ((reference : SectionRef) → SpellsRef (x ∷ rest) reference → ⊥) (SpellsRef (x ∷ rest))
    (λ e. (refl, name_from Name (x ∷ rest) e))
    (λ e reference s. no_name x rest reference e other s)

module _ (rest : List ℕ) where
  abbrev Never : Type 0
  Never = (reference : SectionRef) → SpellsRef (64 ∷ rest) reference → ⊥

  at_kind : (inner : List ℕ) (parts : List ℕ × List ℕ) → CutsAtLast 93 rest inner [] → CutsAtLast 91 inner parts.0 parts.1 → MatchOption (place_with parts) Never (SpellsRef (64 ∷ rest))
  at_kind inner parts c d = choose (is_name_of Printable parts.0) (option_map (ByPlace parts.0) (index_in parts.1)) None Never (SpellsRef (64 ∷ rest))
      (λ e. through (index_in parts.1) (ByPlace parts.0) Never (SpellsRef (64 ∷ rest)) (with_index e (index_in parts.1) (index_right parts.1)))
      (λ e reference s. not_both (is_name_of Printable parts.0) (name_passes Printable parts.0 (paths.same_parts inner [] parts.0 parts.1 d (paths.parts rest inner [] reference c s)).0) e)
    where
      with_index : is_name_of Printable parts.0 ≡ true → (o : Option ℤ) → MatchOption o ((index : ℤ) → SpellsIndex parts.1 index → ⊥) (SpellsIndex parts.1) → MatchOption o Never (λ index. SpellsRef (64 ∷ rest) (ByPlace parts.0 index))
      with_index e None h = λ reference s. let p = (paths.same_parts inner [] parts.0 parts.1 d (paths.parts rest inner [] reference c s)).1 in h p.0 p.1
      with_index e (Some index) h = paths.ref_found rest inner [] parts.0 parts.1 index c d refl (name_from Printable parts.0 e) h

  at_inner : (inner : List ℕ) → CutsAtLast 93 rest inner [] → MatchOption (option_and_then place_with (cut_end 91 inner)) Never (SpellsRef (64 ∷ rest))
  at_inner inner c = behind (cut_end 91 inner) place_with Never (λ parts. CutsAtLast 91 inner parts.0 parts.1) (SpellsRef (64 ∷ rest)) (lacking (cut_end 91 inner) (end_right 91 inner)) (λ parts d. at_kind inner parts c d)
    where
      lacking : (o : Option (List ℕ × List ℕ)) → MatchOption o (HasNone 91 inner) (λ parts. CutsAtLast 91 inner parts.0 parts.1) → MatchOption o Never (λ parts. CutsAtLast 91 inner parts.0 parts.1)
      lacking None h = λ reference s. paths.no_inner inner [] h (paths.parts rest inner [] reference c s)
      lacking (Some parts) h = h

  at_end : (inner end : List ℕ) → CutsAtLast 93 rest inner end → MatchOption (place_before inner end) Never (SpellsRef (64 ∷ rest))
  at_end inner [] c = at_inner inner c
  at_end inner (b ∷ end) c = λ reference s. let e : b ∷ end ≡ [] = (paths.parts rest inner (b ∷ end) reference c s).at_end in cc

  place_right : MatchOption (place_in rest) Never (SpellsRef (64 ∷ rest))
  place_right = behind (cut_end 93 rest) (λ (parts : List ℕ × List ℕ). place_before parts.0 parts.1) Never (λ parts. CutsAtLast 93 rest parts.0 parts.1) (SpellsRef (64 ∷ rest)) (lacking (cut_end 93 rest) (end_right 93 rest))
      (λ parts c. at_end parts.0 parts.1 c)
    where
      lacking : (o : Option (List ℕ × List ℕ)) → MatchOption o (HasNone 93 rest) (λ parts. CutsAtLast 93 rest parts.0 parts.1) → MatchOption o Never (λ parts. CutsAtLast 93 rest parts.0 parts.1)
      lacking None h = λ reference s. paths.no_bracket rest reference h s
      lacking (Some parts) h = h

section_right : (text : List ℕ) → MatchOption (section_in text) ((reference : SectionRef) → SpellsRef text reference → ⊥) (SpellsRef text)
section_right [] = no_empty_section
section_right (x ∷ rest) = choose (nat_eq x 64) (place_in rest) (name_in (x ∷ rest)) ((reference : SectionRef) → SpellsRef (x ∷ rest) reference → ⊥) (SpellsRef (x ∷ rest))
    (λ e. subst (λ (z : ℕ). MatchOption (place_in rest) ((reference : SectionRef) → SpellsRef (z ∷ rest) reference → ⊥) (SpellsRef (z ∷ rest))) (sym (same x 64 e)) (place_right rest))
    (λ e. name_right x rest (apart x 64 e))

-- ---- the whole

module _ (text : List ℕ) where
  abbrev NoPath : Type 0
  NoPath = (path : Path) → SpellsPath text path → ⊥

  alone : HasNone 46 text → MatchOption (path_behind text None) NoPath (SpellsPath text)
  alone h = choose (is_name_of PackageName text) (Some (record { «package» = text; section = None; option = None })) None NoPath (SpellsPath text)
      (λ e. record { behind = []; whole = sym (append-nil text); named = name_from PackageName text e; place = refl })
      (λ e path s. paths.not_a_package text path h (λ m. not_both (is_name_of PackageName text) (name_passes PackageName text m) e) s)

  with_section : (parts : List ℕ × List ℕ) (place : List ℕ × Option (List ℕ)) → CutsAtFirst 46 text parts.0 parts.1 → IsNameOf PackageName parts.0 → CutsOption parts.1 place.0 place.1 → (o : Option SectionRef)
      → MatchOption o ((reference : SectionRef) → SpellsRef place.0 reference → ⊥) (SpellsRef place.0)
      → MatchOption (option_map (λ section. record { «package» = parts.0; section = Some section; option = place.1 }) o) NoPath (SpellsPath text)
  with_section parts place c n d None h = λ path s. paths.not_a_ref text parts.0 parts.1 place.0 place.1 path c d h s
  with_section parts place c n d (Some reference) h = paths.path_found text parts.0 parts.1 place.0 reference place.1 c n d h

  cut_there : (parts : List ℕ × List ℕ) → CutsAtFirst 46 text parts.0 parts.1 → MatchOption (path_behind text (Some parts)) NoPath (SpellsPath text)
  cut_there parts c = choose (is_name_of PackageName parts.0) (path_with parts.0 (with_option parts.1 (cut_end 46 parts.1))) None NoPath (SpellsPath text)
      (λ e. with_section parts (with_option parts.1 (cut_end 46 parts.1)) c (name_from PackageName parts.0 e) (with_option_right parts.1 (cut_end 46 parts.1) (end_right 46 parts.1)) (section_in (with_option parts.1 (cut_end 46 parts.1)).0)
      (section_right (with_option parts.1 (cut_end 46 parts.1)).0))
      (λ e path s. paths.not_named text parts.0 parts.1 path c (λ m. not_both (is_name_of PackageName parts.0) (name_passes PackageName parts.0 m) e) s)

  pub path_right : MatchOption (path_in text) NoPath (SpellsPath text)
  unfolding path_in
  path_right = go (cut 46 text) (cut_right 46 text)
    where
      go : (o : Option (List ℕ × List ℕ)) → MatchOption o (HasNone 46 text) (λ parts. CutsAtFirst 46 text parts.0 parts.1) → MatchOption (path_behind text o) NoPath (SpellsPath text)
      go None h = alone h
      go (Some parts) h = cut_there parts h

  pub path_is : (path : Path) → SpellsPath text path → path_in text ≡ Some path
  path_is path s = go (path_in text) path_right
    where
      go : (o : Option Path) → MatchOption o NoPath (SpellsPath text) → o ≡ Some path
      go None h = absurd (h path s)
      go (Some found) h = ap (λ (z : Path). Some z) (paths.one_path text path found s h)

  pub no_path : NoPath → ◌≡◌ {A = Option Path} (path_in text) None
  no_path never = go (path_in text) path_right
    where
      go : (o : Option Path) → MatchOption o NoPath (SpellsPath text) → ◌≡◌ {A = Option Path} o None
      go None h = refl
      go (Some found) h = absurd (never found h)
