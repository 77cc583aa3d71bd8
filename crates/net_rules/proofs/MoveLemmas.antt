-- How counts over a list move where one of its items becomes another.
use Rattle.std.proofs.Common.{arith, ℕ, zero, suc, ◌≡◌, ◌≤◌, ◌<◌, ◌+◌, List, [], ◌∷◌, ◌++◌, length, Bool, true, false, cond, Option, Some, None, refl, ap, sym, ◌∙◌}
use Rattle.std.specs.Prelude.{filter, slice_get, slice_set}
use Rattle.std.specs.List.{flat_map, zip}

-- one, where a test passes
abbrev pub one : Bool → ℕ
one b = cond b 1 0

pub length_kept : {X : Type 0} (b : Bool) (x : X) (xs : List X) → length (cond b (x ∷ xs) xs) ≡ one b + length xs
length_kept true x xs = omega arith
length_kept false x xs = omega arith

pub some_is : {X : Type 0} (x y : X) → Some x ≡ Some y → x ≡ y
some_is x y h = cc h

module _ {S : Type 0} (p : S → Bool) where
  pub count_moves : (ss : List S) (place : ℕ) (old new : S) → slice_get ss place ≡ Some old → length (filter p (slice_set ss place new)) + one (p old) ≡ length (filter p ss) + one (p new)
  count_moves [] place old new is = cc is
  count_moves (s ∷ ss) zero old new is =
      let same : s ≡ old = some_is s old is in
      let after : length (filter p (new ∷ ss)) ≡ one (p new) + length (filter p ss) = length_kept (p new) new (filter p ss) in
      let before : length (filter p (s ∷ ss)) ≡ one (p s) + length (filter p ss) = length_kept (p s) s (filter p ss) in
      let first : one (p s) ≡ one (p old) = ap (λ x. one (p x)) same in
      omega (arith, after, before, first)
  count_moves (s ∷ ss) (suc place) old new is =
      let rest : length (filter p (slice_set ss place new)) + one (p old) ≡ length (filter p ss) + one (p new) = count_moves ss place old new is in
      let after : length (filter p (s ∷ slice_set ss place new)) ≡ one (p s) + length (filter p (slice_set ss place new)) = length_kept (p s) s (filter p (slice_set ss place new)) in
      let before : length (filter p (s ∷ ss)) ≡ one (p s) + length (filter p ss) = length_kept (p s) s (filter p ss) in
      omega (arith, rest, after, before)

  pub count_few : (ss : List S) → length (filter p ss) ≤ length ss
  count_few [] = omega arith
  count_few (s ∷ ss) =
      let rest : length (filter p ss) ≤ length ss = count_few ss in
      let all : length (filter p (s ∷ ss)) ≡ one (p s) + length (filter p ss) = length_kept (p s) s (filter p ss) in
      let most : one (p s) ≤ 1 = at_most_one (p s) in
      omega (arith, rest, all, most)
    where
      at_most_one : (b : Bool) → one b ≤ 1
      at_most_one true = omega arith
      at_most_one false = omega arith

  pub count_some : (ss : List S) (place : ℕ) (st : S) → slice_get ss place ≡ Some st → p st ≡ true → 0 < length (filter p ss)
  count_some [] place st is passes = cc is
  count_some (s ∷ ss) zero st is passes =
      let same : s ≡ st = some_is s st is in
      let all : length (filter p (s ∷ ss)) ≡ one (p s) + length (filter p ss) = length_kept (p s) s (filter p ss) in
      let first : one (p s) ≡ 1 = ap one (ap p same ∙ passes) in
      omega (arith, all, first)
  count_some (s ∷ ss) (suc place) st is passes =
      let rest : 0 < length (filter p ss) = count_some ss place st is passes in
      let all : length (filter p (s ∷ ss)) ≡ one (p s) + length (filter p ss) = length_kept (p s) s (filter p ss) in
      omega (arith, rest, all)

  -- a count as the length of a list of ones
  pub count_is : (ss : List S) → length (filter p ss) ≡ length (flat_map (λ s. cond {A = List ℕ} (p s) (0 ∷ []) []) ss)
  count_is [] = refl
  count_is (s ∷ ss) = by (p s) (count_is ss)
    where
      by : (b : Bool) → length (filter p ss) ≡ length (flat_map (λ s. cond {A = List ℕ} (p s) (0 ∷ []) []) ss) → length (cond b (s ∷ filter p ss) (filter p ss))
          ≡ length (cond {A = List ℕ} b (0 ∷ []) [] ++ flat_map (λ s. cond {A = List ℕ} (p s) (0 ∷ []) []) ss)
      by true rest = ap suc rest
      by false rest = rest

  pub count_beside : {X : Type 0} (xs : List X) (ss : List S) → length ss ≡ length xs → length (filter p ss) ≡ length (flat_map (λ (e : X × S). cond {A = List ℕ} (p e.1) (0 ∷ []) []) (zip xs ss))
  count_beside [] [] size = refl
  count_beside [] (s ∷ ss) size = absurd (omega (arith, size))
  count_beside (x ∷ xs) [] size = absurd (omega (arith, size))
  count_beside {X} (x ∷ xs) (s ∷ ss) size = by (p s) (count_beside xs ss (omega (arith, size)))
    where
      by : (b : Bool) → length (filter p ss) ≡ length (flat_map (λ (e : X × S). cond {A = List ℕ} (p e.1) (0 ∷ []) []) (zip xs ss)) → length (cond b (s ∷ filter p ss) (filter p ss))
          ≡ length (cond {A = List ℕ} b (0 ∷ []) [] ++ flat_map (λ (e : X × S). cond {A = List ℕ} (p e.1) (0 ∷ []) []) (zip xs ss))
      by true rest = ap suc rest
      by false rest = rest
