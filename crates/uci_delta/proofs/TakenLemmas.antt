-- A delta that is read, or that a valid package takes, is a line of a delta file.
use Rattle.std.proofs.Common.{ℕ, zero, suc, ◌^◌, ◌≡◌, Bool, true, false, not, cond, nat_eq, nat_lt, List, [], ◌∷◌, ◌++◌, Option, Some, None, Result, Ok, Err, bytes_eq, is_some, position, refl, sym, ap, subst, ◌∙◌, arith}
use Rattle.std.specs.Prelude.{◌&&◌}
use Rattle.std.specs.List.{AllByRecursion, AllZip, flat_map, list_all}
use Rattle.std.specs.Char.{digit_value}
use Rattle.std.specs.Str.Parse.{digits_value}
use Rattle.std.specs.Option.{option_map}
use Rattle.std.proofs.lemmas.Bool.Decides.{nat_tests}
use Rattle.std.proofs.lemmas.Slice.Eq.{bytes_eq-Decides}
use Rattle.uci_text.specs.declared.byte_class.ByteClass.TheVariants.{Name, PackageName, Printable, NotZero}
use Rattle.uci_text.specs.ByteClass.{is_in, AllIn}
use Rattle.uci_text.specs.Piece.{Inner, kept, pair, inner_text, inner_value, Piece, plain, escaped, single, double, piece_text, piece_value}
use Rattle.uci_text.specs.Table.{IsNameOf}
use Rattle.uci_text.specs.Word.{word_text, word_value}
use Rattle.uci_text.proofs.ClassLemmas.{all_in-append, all_in-left, all_in-right}
use Rattle.uci_tree.specs.declared.package.Opt.{Opt}
use Rattle.uci_tree.specs.declared.package.Section.{Section}
use Rattle.uci_tree.specs.declared.package.Package.{Package}
use Rattle.uci_tree.specs.Fold.{without, with_option, with_item}
use Rattle.uci_tree.specs.Valid.{IsValidOption, IsValidSection, IsValid}
use Rattle.uci_tree.proofs.FoldLemmas.{position-cons}
use Rattle.uci_delta.specs.declared.delta.Change.{Change}
use Rattle.uci_delta.specs.declared.delta.Change.TheVariants.{Set, Remove, Add, Rename, Reorder, ListAdd, ListDel}
use Rattle.uci_delta.specs.declared.delta.Delta.{Delta}
use Rattle.uci_delta.specs.declared.delta_error.DeltaError.{DeltaError}
use Rattle.uci_delta.specs.declared.delta_error.DeltaError.TheVariants.{NotFound, Invalid, Duplicate}
use Rattle.uci_delta.specs.Names.{is_name_of, is_value}
use Rattle.uci_delta.specs.Place.{are_digits, place_of}
use Rattle.uci_delta.specs.First.{made, first_becomes, first_alone, others}
use Rattle.uci_delta.specs.Options.{is_option, has_option, without_item, options_with}
use Rattle.uci_delta.specs.Sections.{is_section, has_section, are_named, with_kind, with_anonymous, put_at, sections_with, lack_of, in_section}
use Rattle.uci_delta.specs.Applied.{changed, with_sections, applied}
use Rattle.uci_delta.specs.Shape.{Fits}
use Rattle.uci_delta.specs.Print.{mark_of, place_text, value_of}
use Rattle.uci_delta.specs.Line.{SpellsValue, IsNamedOption, SpellsDelta}
use Rattle.uci_delta.specs.Deltas.{Gives, given, AreDeltas}
use Rattle.uci_delta.specs.Printed.{IsCleanValue, IsLine}
use Rattle.uci_delta.proofs.NameLemmas.{all_from, name_from, first_true, second_true}
use Rattle.uci_delta.proofs.ValidLemmas.{made_of, where_true, where_false}

-- ---- deltas that are read

abbrev IsClean : List ℕ → Type 0
IsClean bytes = AllIn NotZero bytes

kept_or_not : (b : Bool) (byte : ℕ) → IsClean (byte ∷ []) → IsClean (cond {A = List ℕ} b [] (byte ∷ []))
kept_or_not true byte h = tt
kept_or_not false byte h = h

clean_inner : (inner : List Inner) → IsClean (flat_map inner_text inner) → IsClean (flat_map inner_value inner)
clean_inner [] h = tt
clean_inner (kept bytes ∷ inner) h = all_in-append NotZero bytes (flat_map inner_value inner) (all_in-left NotZero bytes (flat_map inner_text inner) h) (clean_inner inner (all_in-right NotZero bytes (flat_map inner_text inner) h))
clean_inner (pair byte ∷ inner) h = all_in-append NotZero (inner_value (pair byte)) (flat_map inner_value inner) (kept_or_not (nat_eq byte 10) byte (h.1.0, tt)) (clean_inner inner h.1.1)

clean_piece : (piece : Piece) → IsClean (piece_text piece) → IsClean (piece_value piece)
clean_piece (plain run) h = h
clean_piece (escaped byte) h = kept_or_not (nat_eq byte 10) byte h.1
clean_piece (single bytes) h = all_in-left NotZero bytes (39 ∷ []) h.1
clean_piece (double inner) h = clean_inner inner (all_in-left NotZero (flat_map inner_text inner) (34 ∷ []) h.1)

clean_word : (pieces : List Piece) → IsClean (word_text pieces) → IsClean (word_value pieces)
clean_word [] h = tt
clean_word (piece ∷ pieces) h = all_in-append NotZero (piece_value piece) (word_value pieces) (clean_piece piece (all_in-left NotZero (piece_text piece) (word_text pieces) h))
    (clean_word pieces (all_in-right NotZero (piece_text piece) (word_text pieces) h))

clean_value : (text : List ℕ) (value : Option (List ℕ)) → IsClean text → SpellsValue text value → IsCleanValue value
clean_value text None c s = tt
clean_value text (Some value) c s =
    let whole : IsClean (61 ∷ s.0) = subst IsClean s.1 c in
    subst IsClean (sym s.2.value_is) (clean_word s.2.pieces (subst IsClean s.2.whole whole.1))

read_line : (name part : List ℕ) (delta : Delta) → delta.package ≡ name → SpellsDelta part delta → IsLine name delta
read_line name part delta p s =
    let all : IsClean (mark_of delta.change ++ (place_text delta ++ s.value)) = subst IsClean s.whole s.clean in
    let behind = all_in-right NotZero (mark_of delta.change) (place_text delta ++ s.value) all in
    record {
      in_package = p;
      named = s.named;
      shape = s.shape;
      clean = clean_value s.value (value_of delta.change) (all_in-right NotZero (place_text delta) s.value behind) s.spelled;
    }

given_lines : (name : List ℕ) (parts : List (List ℕ)) (found : List (Option Delta)) → AllZip (Gives name) parts found → AllByRecursion (IsLine name) (given found)
given_lines name [] [] h = tt
given_lines name [] (x ∷ found) h = absurd h
given_lines name (part ∷ parts) [] h = absurd h
given_lines name (part ∷ parts) (None ∷ found) h = given_lines name parts found h.1
given_lines name (part ∷ parts) (Some delta ∷ found) h = (read_line name part delta h.0.0 h.0.1, given_lines name parts found h.1)

pub read_lines : (name text : List ℕ) (deltas : List Delta) → AreDeltas name text deltas → AllByRecursion (IsLine name) deltas
read_lines name text deltas a = subst (AllByRecursion (IsLine name)) (sym a.are) (given_lines name a.parts a.found a.each)

-- ---- deltas that are taken

graphic_not_zero : (byte : ℕ) → is_in Printable byte ≡ true → is_in NotZero byte ≡ true
graphic_not_zero byte h = grind (arith, nat_tests)

kind_clean : (kind : List ℕ) → AllIn Printable kind → IsClean kind
kind_clean [] h = tt
kind_clean (byte ∷ kind) h = (graphic_not_zero byte h.0, kind_clean kind h.1)

name_byte_clean : (byte : ℕ) → is_in Name byte ≡ true → is_in NotZero byte ≡ true
name_byte_clean byte h = grind (arith, nat_tests)

name_clean : (name : List ℕ) → AllIn Name name → IsClean name
name_clean [] h = tt
name_clean (byte ∷ name) h = (name_byte_clean byte h.0, name_clean name h.1)

digit_clean : (byte : ℕ) → nat_lt (digit_value byte) 10 ≡ true → is_in NotZero byte ≡ true
digit_clean zero h = absurd (let f : false ≡ true = h in cc)
digit_clean (suc byte) h = grind (arith, nat_tests)

digits_clean : (text : List ℕ) → list_all (λ byte. nat_lt (digit_value byte) 10) text ≡ true → IsClean text
digits_clean [] h = tt
digits_clean (byte ∷ text) h = (digit_clean byte (first_true _ _ h), digits_clean text (second_true _ _ h))

place_clean : (text : List ℕ) (b : Bool) → (b ≡ true → IsClean text) → is_some (cond {A = Option ℕ} b (Some (digits_value 10 text)) None) ≡ true → IsClean text
place_clean text true h e = h refl
place_clean text false h e = absurd (let f : false ≡ true = e in cc)

moved_clean : (text : List ℕ) → is_some (place_of text) ≡ true → IsClean text
moved_clean text e = place_clean text (are_digits text && nat_lt (digits_value 10 text) (2 ^ 32)) (λ h. digits_clean text (second_true _ _ (first_true _ _ h))) e

-- an item that passes, and what it becomes
record Found {X : Type 0} (P : X → Type 0) (test : X → Bool) (becomes : X → Result (List X) DeltaError) : Type 0 where
  pub item : X
  pub has : P item
  pub passes : test item ≡ true
  pub new : List X
  pub is : becomes item ≡ Ok new

found_step : {X : Type 0} (P : X → Type 0) (test : X → Bool) (becomes : X → Result (List X) DeltaError) (x : X) (xs new : List X) (rest : Result (List X) DeltaError) (b : Bool) → test x ≡ b → P x
    → ((zs : List X) → rest ≡ Ok zs → Found P test becomes)
    → cond {A = Result (List X) DeltaError} b (made (λ new. new ++ xs) (becomes x)) (made (λ rest. x ∷ rest) rest) ≡ Ok new → Found P test becomes
found_step P test becomes x xs new rest true t p h e =
    let m = made_of (λ new. new ++ xs) (becomes x) new e in
    record { item = x; has = p; passes = t; new = m.x; is = m.found }
found_step P test becomes x xs new rest false t p h e =
    let m = made_of (λ (zs : List _). x ∷ zs) rest new e in
    h m.x m.found

found : {X : Type 0} (P : X → Type 0) (test : X → Bool) (lack : DeltaError) (becomes : X → Result (List X) DeltaError) (xs new : List X) → AllByRecursion P xs → first_becomes test lack becomes xs ≡ Ok new → Found P test becomes
found P test lack becomes [] new p e = absurd (let f : ◌≡◌ {A = Result _ DeltaError} (Err lack) (Ok new) = e in cc)
found P test lack becomes (x ∷ xs) new p e = found_step P test becomes x xs new (first_becomes test lack becomes xs) (test x) refl p.0 (λ zs f. found P test lack becomes xs zs p.1 f) e

-- the place of an item that passes, where there is one
record Passing {X : Type 0} (P : X → Type 0) (test : X → Bool) : Type 0 where
  pub item : X
  pub has : P item
  pub passes : test item ≡ true

passing_step : {X : Type 0} (P : X → Type 0) (test : X → Bool) (x : X) (b : Bool) (place : Option ℕ) → test x ≡ b → P x → (is_some place ≡ true → Passing P test) → is_some (cond {A = Option ℕ} b (Some 0) (option_map (λ k. suc k) place))
    ≡ true → Passing P test
passing_step P test x true place t p h e = record { item = x; has = p; passes = t }
passing_step P test x false None t p h e = absurd (let f : false ≡ true = e in cc)
passing_step P test x false (Some k) t p h e = h refl

passing : {X : Type 0} (P : X → Type 0) (test : X → Bool) (xs : List X) → AllByRecursion P xs → is_some (position test xs) ≡ true → Passing P test
passing P test [] p e = absurd (let f : false ≡ true = e in cc)
passing P test (x ∷ xs) p e = passing_step P test x (test x) (position test xs) refl p.0 (λ f. passing P test xs p.1 f) (ap is_some (sym (position-cons test x xs)) ∙ e)

no_change : {X : Type 0} {A : Type 0} (error : DeltaError) (x : X) → ◌≡◌ {A = Result X DeltaError} (Err error) (Ok x) → A
no_change error x e = absurd (let f : ◌≡◌ {A = Result _ DeltaError} (Err error) (Ok x) = e in cc)

not_not : (b : Bool) → not b ≡ false → b ≡ true
not_not true e = refl
not_not false e = absurd (let f : true ≡ false = e in cc)

same_name : (a b : List ℕ) → IsNameOf Name a → bytes_eq a b ≡ true → IsNameOf Name b
same_name a b n e = subst (IsNameOf Name) ((bytes_eq-Decides a b).0 e) n

-- what a line has but for its package
record IsTaken (section : List ℕ) (option : Option (List ℕ)) (change : Change) : Type 0 where
  pub named : IsNameOf Name section
  pub option_named : IsNamedOption option
  pub shape : Fits change option
  pub clean : IsCleanValue (value_of change)

renamed_name : (new : List ℕ) (a b : Bool) (x y : List Section) → cond {A = Result (List Section) DeltaError} (not a) (Err Invalid) (cond {A = Result (List Section) DeltaError} b (Err Duplicate) (Ok x)) ≡ Ok y → a ≡ true
renamed_name new a b x y e = not_not a (where_false (not a) (cond {A = Result (List Section) DeltaError} b (Err Duplicate) (Ok x)) Invalid y e).0

renamed_option : (new : List ℕ) (a b : Bool) (x y : List Opt) → cond {A = Result (List Opt) DeltaError} (not a) (Err Invalid) (cond {A = Result (List Opt) DeltaError} b (Err Duplicate) (Ok x)) ≡ Ok y → a ≡ true
renamed_option new a b x y e = not_not a (where_false (not a) (cond {A = Result (List Opt) DeltaError} b (Err Duplicate) (Ok x)) Invalid y e).0

put_place : (place : Option ℕ) (moved rest new : List Section) → put_at place moved rest ≡ Ok new → is_some place ≡ true
put_place None moved rest new e = no_change Invalid new e
put_place (Some k) moved rest new e = refl

section_taken : (name : List ℕ) (change : Change) (sections new : List Section) → AllByRecursion IsValidSection sections → sections_with name change sections ≡ Ok new → IsTaken name None change
section_taken name (Set kind) sections new v e =
    let t = (where_true (are_named name kind) (with_kind name kind sections) Invalid new e).0 in
    record { named = name_from Name name (first_true _ _ t); option_named = tt; shape = tt; clean = kind_clean kind (name_from Printable kind (second_true _ _ t)).1 }
section_taken name Remove sections new v e =
    let f = found IsValidSection (is_section name) NotFound (λ section. Ok []) sections new v e in
    record { named = same_name f.item.name name f.has.named f.passes; option_named = tt; shape = tt; clean = tt }
section_taken name (Add kind) sections new v e =
    let t = (where_true (are_named name kind) (with_anonymous name kind sections) Invalid new e).0 in
    record { named = name_from Name name (first_true _ _ t); option_named = tt; shape = tt; clean = kind_clean kind (name_from Printable kind (second_true _ _ t)).1 }
section_taken name (Rename to) sections new v e =
    let f = found IsValidSection (is_section name) NotFound (λ section. cond {A = Result (List Section) DeltaError} (not (is_name_of Name to)) (Err Invalid)
    (cond {A = Result (List Section) DeltaError} (has_section to sections) (Err Duplicate) (Ok (record section { name = to; anonymous = false } ∷ [])))) sections new v e in
    record { named = same_name f.item.name name f.has.named f.passes; option_named = tt; shape = tt; clean = name_clean to (name_from Name to (renamed_name to (is_name_of Name to) (has_section to sections) _ f.new f.is)).1 }
section_taken name (Reorder place) sections new v e =
    let moved = first_alone (is_section name) sections in
    let rest = others (is_section name) sections in
    let w = where_true (has_section name sections) (put_at (place_of place) moved rest) NotFound new e in
    let f = passing IsValidSection (is_section name) sections v w.0 in
    record { named = same_name f.item.name name f.has.named f.passes; option_named = tt; shape = tt; clean = moved_clean place (put_place (place_of place) moved rest new w.1) }
section_taken name (ListAdd item) sections new v e = no_change Invalid new e
section_taken name (ListDel item) sections new v e = no_change Invalid new e

-- what a line has of an option
record IsTakenOption (name : List ℕ) (change : Change) : Type 0 where
  pub named : IsNameOf Name name
  pub shape : Fits change (Some name)
  pub clean : IsCleanValue (value_of change)

valued : (name value : List ℕ) (options : Result (List Opt) DeltaError) (new : List Opt) → cond {A = Result (List Opt) DeltaError} (is_name_of Name name && is_value value) options (Err Invalid) ≡ Ok new → IsNameOf Name name × IsClean value
valued name value options new e =
    let t = (where_true (is_name_of Name name && is_value value) options Invalid new e).0 in
    (name_from Name name (first_true _ _ t), all_from NotZero value (second_true _ _ t))

option_taken : (name : List ℕ) (change : Change) (options new : List Opt) → AllByRecursion IsValidOption options → options_with name change options ≡ Ok new → IsTakenOption name change
option_taken name (Set value) options new v e = let t = valued name value (Ok (with_option name value options)) new e in record { named = t.0; shape = tt; clean = t.1 }
option_taken name Remove options new v e =
    let f = passing IsValidOption (is_option name) options v (where_true (has_option name options) (Ok (without name options)) NotFound new e).0 in
    record { named = same_name f.item.name name f.has.named f.passes; shape = tt; clean = tt }
option_taken name (Add kind) options new v e = no_change Invalid new e
option_taken name (Rename to) options new v e =
    let f = found IsValidOption (is_option name) NotFound (λ option. cond {A = Result (List Opt) DeltaError} (not (is_name_of Name to)) (Err Invalid)
    (cond {A = Result (List Opt) DeltaError} (has_option to options) (Err Duplicate) (Ok (record option { name = to } ∷ [])))) options new v e in
    record { named = same_name f.item.name name f.has.named f.passes; shape = tt; clean = name_clean to (name_from Name to (renamed_option to (is_name_of Name to) (has_option to options) _ f.new f.is)).1 }
option_taken name (Reorder place) options new v e = no_change Invalid new e
option_taken name (ListAdd item) options new v e = let t = valued name item (Ok (with_item name item options)) new e in record { named = t.0; shape = tt; clean = t.1 }
option_taken name (ListDel item) options new v e = let t = valued name item (without_item name item options) new e in record { named = t.0; shape = tt; clean = t.1 }

change_taken : (section : List ℕ) (option : Option (List ℕ)) (change : Change) (sections new : List Section) → AllByRecursion IsValidSection sections → changed section option change sections ≡ Ok new → IsTaken section option change
change_taken section None change sections new v e = section_taken section change sections new v e
change_taken section (Some option) change sections new v e =
    let f = found IsValidSection (is_section section) (lack_of change) (in_section option change) sections new v e in
    let m = made_of (λ (options : List Opt). record f.item { options = options } ∷ []) (options_with option change f.item.options) f.new f.is in
    let t = option_taken option change f.item.options m.x f.has.options m.found in
    record { named = same_name f.item.name section f.has.named f.passes; option_named = t.named; shape = t.shape; clean = t.clean }

pub taken_line : (tree new : Package) (delta : Delta) → IsValid tree → IsNameOf PackageName delta.package → applied tree delta ≡ Ok new → IsLine delta.package delta
taken_line tree new delta v n e =
    let m = made_of (with_sections tree) (changed delta.section delta.option delta.change tree.sections) new e in
    let t = change_taken delta.section delta.option delta.change tree.sections m.x v.sections m.found in
    record { in_package = refl; named = record { in_package = n; section = t.named; option = t.option_named }; shape = t.shape; clean = t.clean }
