-- Numbers put in order.
use Rattle.std.proofs.Common.{ℕ, suc, ◌≡◌, ◌-◌, ◌<◌, ◌≤◌, List, [], ◌∷◌, length, drop, get_or, drop-cons, refl, sym, ap, ◌∙◌, arith}
use Rattle.std.specs.Ordering.{nat_cmp, match_ordering}
use Rattle.std.specs.declared.cmp.Ordering.{Ordering}
use Rattle.std.specs.declared.cmp.Ordering.TheVariants.{Less, Equal, Greater}
use Rattle.std.specs.BTreeSet.{insert_key}
use Rattle.plane_words.specs.InOrder.{placed, put_in, ordered}

-- an insert puts a number in its place
put_at : (r : Ordering) (n first : ℕ) (others inserted later : List ℕ) → inserted ≡ later → match_ordering r (n ∷ first ∷ others) (first ∷ others) (first ∷ inserted) ≡ placed r n first others later
put_at Less n first others inserted later h = refl
put_at Equal n first others inserted later h = refl
put_at Greater n first others inserted later h = ap (λ (z : List ℕ). first ∷ z) h

pub inserted_is_put : (n : ℕ) (numbers : List ℕ) → insert_key nat_cmp numbers n ≡ put_in nat_cmp n numbers
inserted_is_put n [] = refl
inserted_is_put n (first ∷ others) = put_at (nat_cmp n first) n first others (insert_key nat_cmp others n) (put_in nat_cmp n others) (inserted_is_put n others)

-- the items from here on, with the one before them
pub drop_before : {X : Type 0} (xs : List X) (p : ℕ) (x : X) → 0 < p → p ≤ length xs → x ≡ get_or xs (p - 1) x → drop (p - 1) xs ≡ x ∷ drop p xs
drop_before xs p x some bound e =
    let next : suc (p - 1) ≡ p = omega arith in
    drop-cons xs (p - 1) x (omega arith) ∙ (ap (λ z. z ∷ drop (suc (p - 1)) xs) (sym e) ∙ ap (λ (n : ℕ). x ∷ drop n xs) next)

pub number_more : (numbers : List ℕ) (p number : ℕ) (old new : List ℕ) → drop (p - 1) numbers ≡ number ∷ drop p numbers → old ≡ ordered nat_cmp (drop p numbers) → new ≡ insert_key nat_cmp old number → new
    ≡ ordered nat_cmp (drop (p - 1) numbers)
number_more numbers p number old new more sofar made =
    made ∙ inserted_is_put number old ∙ ap (put_in nat_cmp number) sofar ∙ sym (ap (ordered nat_cmp) more)
