-- How often objects are among what lists beside each other give.
use Rattle.std.proofs.Common.{arith, ℕ, zero, suc, ◌≡◌, ◌≤◌, ◌+◌, ◌*◌, List, [], ◌∷◌, ◌++◌, length, Contains, Option, Some, refl, ap, sym, ◌∙◌}
use Rattle.std.specs.Prelude.{filter, slice_get, slice_set}
use Rattle.std.specs.List.{flat_map, zip}
use Rattle.std.specs.Ordering.{eq_by_cmp}
use Rattle.std.proofs.lemmas.List.{length-append}
use Rattle.std.proofs.lemmas.List.Elements.{filter-append}
use Rattle.kern_model.specs.declared.object.Object.{Object}
use Rattle.kern_model.specs.ObjectOrder.{object_cmp}
use Rattle.kern_model.proofs.MemberLemmas.{here, there}
use Rattle.net_rules.proofs.MoveLemmas.{some_is, count_few}
use Rattle.net_gifts.specs.Giving.{times_in}

pub times_behind : (o : Object) (xs ys : List Object) → times_in o (xs ++ ys) ≡ times_in o xs + times_in o ys
times_behind o xs ys =
    ap length (filter-append (eq_by_cmp object_cmp o) xs ys)
    ∙ length-append (filter (eq_by_cmp object_cmp o) xs) (filter (eq_by_cmp object_cmp o) ys)

pub times_few : (o : Object) (xs : List Object) → times_in o xs ≤ length xs
times_few o xs = count_few (eq_by_cmp object_cmp o) xs

suc_times : (n most : ℕ) → suc n * most ≡ most + n * most
suc_times n most = grind arith

module _ {X S : Type 0} (g : X × S → List Object) where
  abbrev all : List X → List S → List Object
  all xs ss = flat_map g (zip xs ss)

  pub times_move : (xs : List X) (ss : List S) (place : ℕ) (x : X) (old new : S) (o : Object) → slice_get xs place ≡ Some x → slice_get ss place ≡ Some old → times_in o (all xs (slice_set ss place new)) + times_in o (g (x, old))
      ≡ times_in o (all xs ss) + times_in o (g (x, new))
  times_move [] ss place x old new o row is = cc row
  times_move (y ∷ ys) [] place x old new o row is = cc is
  times_move (y ∷ ys) (s ∷ ss) zero x old new o row is =
      let one : y ≡ x = some_is y x row in
      let was : s ≡ old = some_is s old is in
      let after : times_in o (g (y, new) ++ all ys ss) ≡ times_in o (g (y, new)) + times_in o (all ys ss) = times_behind o (g (y, new)) (all ys ss) in
      let before : times_in o (g (y, s) ++ all ys ss) ≡ times_in o (g (y, s)) + times_in o (all ys ss) = times_behind o (g (y, s)) (all ys ss) in
      let same_new : times_in o (g (y, new)) ≡ times_in o (g (x, new)) = ap (λ z. times_in o (g (z, new))) one in
      let same_old : times_in o (g (y, s)) ≡ times_in o (g (x, old)) = ap (λ z. times_in o (g (z, s))) one ∙ ap (λ t. times_in o (g (x, t))) was in
      omega (arith, after, before, same_new, same_old)
  times_move (y ∷ ys) (s ∷ ss) (suc place) x old new o row is =
      let rest : times_in o (all ys (slice_set ss place new)) + times_in o (g (x, old)) ≡ times_in o (all ys ss) + times_in o (g (x, new)) = times_move ys ss place x old new o row is in
      let after : times_in o (g (y, s) ++ all ys (slice_set ss place new)) ≡ times_in o (g (y, s)) + times_in o (all ys (slice_set ss place new)) = times_behind o (g (y, s)) (all ys (slice_set ss place new)) in
      let before : times_in o (g (y, s) ++ all ys ss) ≡ times_in o (g (y, s)) + times_in o (all ys ss) = times_behind o (g (y, s)) (all ys ss) in
      omega (arith, rest, after, before)

  pub times_part : (xs : List X) (ss : List S) (place : ℕ) (x : X) (s : S) (o : Object) → slice_get xs place ≡ Some x → slice_get ss place ≡ Some s → times_in o (g (x, s)) ≤ times_in o (all xs ss)
  times_part [] ss place x s o row is = cc row
  times_part (y ∷ ys) [] place x s o row is = cc is
  times_part (y ∷ ys) (t ∷ ts) zero x s o row is =
      let sum : times_in o (g (y, t) ++ all ys ts) ≡ times_in o (g (y, t)) + times_in o (all ys ts) = times_behind o (g (y, t)) (all ys ts) in
      let same : times_in o (g (y, t)) ≡ times_in o (g (x, s)) = ap (λ z. times_in o (g (z, t))) (some_is y x row) ∙ ap (λ u. times_in o (g (x, u))) (some_is t s is) in
      omega (arith, sum, same)
  times_part (y ∷ ys) (t ∷ ts) (suc place) x s o row is =
      let rest : times_in o (g (x, s)) ≤ times_in o (all ys ts) = times_part ys ts place x s o row is in
      let sum : times_in o (g (y, t) ++ all ys ts) ≡ times_in o (g (y, t)) + times_in o (all ys ts) = times_behind o (g (y, t)) (all ys ts) in
      omega (arith, rest, sum)

  pub length_few : (xs : List X) (ss : List S) (most : ℕ) → ((x : X) (s : S) → Contains xs x → length (g (x, s)) ≤ most) → length (all xs ss) ≤ length xs * most
  length_few [] ss most each = omega arith
  length_few (x ∷ xs) [] most each = omega arith
  length_few (x ∷ xs) (s ∷ ss) most each =
      let rest : length (all xs ss) ≤ length xs * most = length_few xs ss most (λ y t member. each y t (there x xs y member)) in
      let one : length (g (x, s)) ≤ most = each x s (here x xs) in
      let sum : length (g (x, s) ++ all xs ss) ≡ length (g (x, s)) + length (all xs ss) = length-append (g (x, s)) (all xs ss) in
      let more : suc (length xs) * most ≡ most + length xs * most = suc_times (length xs) most in
      omega (arith, rest, one, sum, more)

  pub times_most : (xs : List X) (ss : List S) (most : ℕ) (o : Object) → ((x : X) (s : S) → Contains xs x → length (g (x, s)) ≤ most) → times_in o (all xs ss) ≤ length xs * most
  times_most xs ss most o each =
      let few : times_in o (all xs ss) ≤ length (all xs ss) = times_few o (all xs ss) in
      let bound : length (all xs ss) ≤ length xs * most = length_few xs ss most each in
      omega (arith, few, bound)

pub gives_agree : {X S : Type 0} (g h : X × S → List Object) (xs : List X) (ss : List S) → ((i : ℕ) (x : X) (s : S) → slice_get xs i ≡ Some x → slice_get ss i ≡ Some s → g (x, s) ≡ h (x, s)) → flat_map g (zip xs ss) ≡ flat_map h (zip xs ss)
gives_agree g h [] ss agree = refl
gives_agree g h (x ∷ xs) [] agree = refl
gives_agree g h (x ∷ xs) (s ∷ ss) agree =
    ap (λ os. os ++ flat_map g (zip xs ss)) (agree 0 x s refl refl)
    ∙ ap (λ os. h (x, s) ++ os) (gives_agree g h xs ss (λ i y t row is. agree (suc i) y t row is))
