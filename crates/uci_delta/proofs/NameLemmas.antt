-- Tests of names and values.
use Rattle.std.proofs.Common.{ℕ, ◌≡◌, ◌<◌, Bool, true, false, not, ◌&&◌, nat_eq, List, [], ◌∷◌, length, refl, ap, subst, arith}
use Rattle.std.specs.Prelude.{IsTrue, ◌↔◌}
use Rattle.std.proofs.lemmas.Bool.Decides.{nat_tests}
use Rattle.std.specs.List.{list_all}
use Rattle.uci_text.specs.declared.byte_class.ByteClass.{ByteClass}
use Rattle.uci_text.specs.ByteClass.{is_in, AllIn}
use Rattle.uci_text.specs.Table.{IsNameOf}
use Rattle.uci_delta.specs.Names.{is_name_of}

pub both : (a b : Bool) → a ≡ true → b ≡ true → (a && b) ≡ true
both true b e f = f
both false b e f = absurd (let g : false ≡ true = e in cc)

pub first_true : (a b : Bool) → (a && b) ≡ true → a ≡ true
first_true true b e = refl
first_true false b e = absurd (let g : false ≡ true = e in cc)

pub second_true : (a b : Bool) → (a && b) ≡ true → b ≡ true
second_true true b e = e
second_true false b e = absurd (let g : false ≡ true = e in cc)

pub all_passes : (class : ByteClass) (bytes : List ℕ) → AllIn class bytes → list_all (is_in class) bytes ≡ true
all_passes class [] h = refl
all_passes class (b ∷ bytes) h = both (is_in class b) (list_all (is_in class) bytes) h.0 (all_passes class bytes h.1)

pub all_from : (class : ByteClass) (bytes : List ℕ) → list_all (is_in class) bytes ≡ true → AllIn class bytes
all_from class [] e = tt
all_from class (b ∷ bytes) e = (first_true (is_in class b) (list_all (is_in class) bytes) e, all_from class bytes (second_true (is_in class b) (list_all (is_in class) bytes) e))

pub not_empty : (bytes : List ℕ) → 0 < length bytes → not (nat_eq (length bytes) 0) ≡ true
not_empty bytes h = let e : nat_eq (length bytes) 0 ≡ false = grind (arith, nat_tests) in ap not e

pub some_from : (bytes : List ℕ) → not (nat_eq (length bytes) 0) ≡ true → 0 < length bytes
some_from [] e = absurd (let g : false ≡ true = e in cc)
some_from (b ∷ bytes) e = omega arith

pub name_passes : (class : ByteClass) (bytes : List ℕ) → IsNameOf class bytes → is_name_of class bytes ≡ true
name_passes class bytes h = both (not (nat_eq (length bytes) 0)) (list_all (is_in class) bytes) (not_empty bytes h.0) (all_passes class bytes h.1)

pub name_from : (class : ByteClass) (bytes : List ℕ) → is_name_of class bytes ≡ true → IsNameOf class bytes
name_from class bytes e = (some_from bytes (first_true (not (nat_eq (length bytes) 0)) (list_all (is_in class) bytes) e), all_from class bytes (second_true (not (nat_eq (length bytes) 0)) (list_all (is_in class) bytes) e))

-- two tests of one thing
pub same_test : {P : Type 0} (a b : Bool) → (IsTrue a ↔ P) → (P → b ≡ true) → (b ≡ true → P) → a ≡ b
same_test true true h to from = refl
same_test false false h to from = refl
same_test true false h to from = absurd (let e : false ≡ true = to (h.0 refl) in cc)
same_test false true h to from = absurd (let e : false ≡ true = h.1 (from refl) in cc)

pub named_is : (class : ByteClass) (bytes text : List ℕ) (result : Bool) → bytes ≡ text → (IsTrue result ↔ IsNameOf class bytes) → result ≡ is_name_of class text
named_is class bytes text result e h =
    let P : List ℕ → Type 0 = λ z. result ≡ is_name_of class z in
    subst P e (same_test result (is_name_of class bytes) h (name_passes class bytes) (name_from class bytes))

pub value_is : (class : ByteClass) (bytes text : List ℕ) (result : Bool) → bytes ≡ text → (IsTrue result ↔ AllIn class bytes) → result ≡ list_all (is_in class) text
value_is class bytes text result e h =
    let P : List ℕ → Type 0 = λ z. result ≡ list_all (is_in class) z in
    subst P e (same_test result (list_all (is_in class) bytes) h (all_passes class bytes) (all_from class bytes))
