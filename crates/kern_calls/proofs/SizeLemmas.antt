-- How large the set of a list is.
use Rattle.std.proofs.Common.{arith, ℕ, ◌≡◌, ◌≤◌, ◌+◌, List, [], ◌∷◌, true, false, cond, length}
use Rattle.std.specs.FinSet as set
use Rattle.kern_model.specs.declared.object.Object.{Object}
use Rattle.kern_model.specs.ObjectOrder.{Objects, set_of, object_cmp}
use Rattle.kern_model.proofs.OrderLemmas.{objects_total}

-- a set of a list is no larger than the list
insert_size : (s : Objects) (o : Object) → set.len (set.insert s o) ≤ set.len s + 1
insert_size s o =
    let size = set.len-insert objects_total s o in
    elim (set.contains s o) as (λ b. set.len (set.insert s o) ≡ cond b (set.len s) (set.len s + 1) → set.len (set.insert s o) ≤ set.len s + 1) [
      | true ↦ λ is. omega arith
      | false ↦ λ is. omega arith
    ] size

pub set_size : (xs : List Object) → set.len (set_of xs) ≤ length xs
set_size [] = let none = set.len-empty object_cmp in omega arith
set_size (x ∷ xs) = let rest = set_size xs in let more = insert_size (set_of xs) x in omega arith
