-- Fronts of bytes of a class.
use Rattle.std.proofs.Common.{ℕ, ◌≡◌, ◌<◌, List, [], ◌∷◌, ◌++◌, length, true, false, arith, nat_eq}
use Rattle.std.specs.List.{AllByRecursion}
use Rattle.std.proofs.lemmas.List.{nil_from_length}
use Rattle.std.proofs.lemmas.Bool.Decides.{nat_tests}
use Rattle.uci_text.specs.declared.byte_class.ByteClass.{ByteClass}
use Rattle.uci_text.specs.ByteClass.{AllIn}

-- the two answers of `is_empty`
pub has_none : (bytes : List ℕ) → nat_eq (length bytes) 0 ≡ true → bytes ≡ []
has_none bytes test =
    let zeros : length bytes ≡ 0 = grind (arith, nat_tests) in
    nil_from_length bytes zeros

pub has_some : (bytes : List ℕ) → nat_eq (length bytes) 0 ≡ false → 0 < length bytes
has_some bytes test = grind (arith, nat_tests)

-- what holds of each of a list, and of each of another behind it
pub each-append : {X : Type 0} (P : X → Type 0) (a b : List X) → AllByRecursion P a → AllByRecursion P b → AllByRecursion P (a ++ b)
each-append P [] b pa pb = pb
each-append P (x ∷ a) b pa pb = (pa.0, each-append P a b pa.1 pb)

pub all_in-append : (class : ByteClass) (a b : List ℕ) → AllIn class a → AllIn class b → AllIn class (a ++ b)
all_in-append class [] b pa pb = pb
all_in-append class (x ∷ a) b pa pb = (pa.0, all_in-append class a b pa.1 pb)

pub all_in-left : (class : ByteClass) (a b : List ℕ) → AllIn class (a ++ b) → AllIn class a
all_in-left class [] b p = tt
all_in-left class (x ∷ a) b p = (p.0, all_in-left class a b p.1)

pub all_in-right : (class : ByteClass) (a b : List ℕ) → AllIn class (a ++ b) → AllIn class b
all_in-right class [] b p = p
all_in-right class (x ∷ a) b p = all_in-right class a b p.1
