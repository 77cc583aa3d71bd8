-- Users are counted in 64 bits.
use Rattle.std.proofs.Common.{ℕ, ◌+◌, ◌≤◌, List, [], ◌∷◌, length, Bool, true, false, cond, arith}
use Rattle.std.specs.Prelude.{◌&&◌, filter, not, bytes_eq, map}
use Rattle.net_rows.specs.declared.rows.InterfaceRow.{InterfaceRow}
use Rattle.net_rows.specs.declared.rows.NameRow.{NameRow}
use Rattle.net_rules.specs.Facts.{Facts}
use Rattle.net_rules.specs.Firsts.{firsts}
use Rattle.net_rules.specs.Standing.{stands}
use Rattle.net_rules.specs.Available.{available}
use Rattle.net_rules.specs.Used.{uses, used, users}

few_kept : {X : Type 0} (b : Bool) (x : X) (xs : List X) (n : ℕ) → length xs ≤ n → length (cond b (x ∷ xs) xs) ≤ n + 1
few_kept true x xs n few = omega arith
few_kept false x xs n few = omega arith

few_filtered : {X : Type 0} (p : X → Bool) → (xs : List X) → length (filter p xs) ≤ length xs
few_filtered p [] = omega arith
few_filtered p (x ∷ xs) = let few = few_kept (p x) x (filter p xs) (length xs) (few_filtered p xs) in omega arith

few_firsts : {X : Type 0} (key : X → List ℕ) → (xs : List X) → length (firsts key xs) ≤ length xs
few_firsts key [] = omega arith
few_firsts key (x ∷ xs) =
    let rest = few_firsts key xs in
    let few = few_filtered (λ y. not (bytes_eq (key y) (key x))) (firsts key xs) in
    omega arith

as_many : {X Y : Type 0} (f : X → Y) → (xs : List X) → length (map f xs) ≤ length xs
as_many f [] = omega arith
as_many f (x ∷ xs) = let rest = as_many f xs in omega arith

few_at : (b : Bool) (n most : ℕ) → n ≤ most → cond b n 0 ≤ most
few_at true n most few = few
few_at false n most few = omega arith

pub few_users : (facts : Facts) (name : List ℕ) → users facts name ≤ length facts.conf.interfaces + length facts.conf.names
few_users facts name =
    let key : InterfaceRow → List ℕ = λ row. row.name in
    let title : NameRow → List ℕ = λ row. row.name in
    let test : List ℕ → Bool = λ upper. stands facts name upper && used facts upper in
    let one = few_filtered (uses facts name) (firsts key facts.conf.interfaces) in
    let two = few_firsts key facts.conf.interfaces in
    let three = few_filtered test (map title facts.conf.names) in
    let four = as_many title facts.conf.names in
    few_at (available facts name) _ (length facts.conf.interfaces + length facts.conf.names) (omega (arith, one, two, three, four))
