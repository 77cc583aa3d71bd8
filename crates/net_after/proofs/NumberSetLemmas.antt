-- Numbers in a set, and numbers in order.
use Rattle.std.proofs.Common.{◌≡◌, ℕ, ◌+◌, ◌-◌, ◌<◌, List, [], ◌∷◌, ◌++◌, length, drop, take, get_or, Bool, true, false, cond, refl, sym, ap, ◌∙◌, arith, ne_eqb}
use Rattle.std.specs.Prelude.{◌||◌, ◌==◌, filter, not, nat_lt}
use Rattle.std.specs.List.{list_any}
use Rattle.std.specs.Ordering.{nat_cmp, is_eq, match_ordering}
use Rattle.std.specs.declared.cmp.Ordering.{Ordering}
use Rattle.std.specs.declared.cmp.Ordering.TheVariants.{Less, Equal, Greater}
use Rattle.std.specs.BTreeSet.{BTreeSet, contains, insert_key}
use Rattle.std.proofs.lemmas.List.{take_more}
use Rattle.std.proofs.lemmas.List.Folds.{list_any-append}
use Rattle.kern_model.proofs.TestLemmas.{below_test}
use Rattle.plane_words.specs.InOrder.{placed, put_in, ordered}
use Rattle.net_after.specs.NumberSet.{HasNumbers}

-- an insert puts a number in its place
put_at : (r : Ordering) (n first : ℕ) (others inserted later : List ℕ) → inserted ≡ later → match_ordering r (n ∷ first ∷ others) (first ∷ others) (first ∷ inserted) ≡ placed r n first others later
put_at Less n first others inserted later h = refl
put_at Equal n first others inserted later h = refl
put_at Greater n first others inserted later h = ap (λ (z : List ℕ). first ∷ z) h

pub inserted_is_put : (n : ℕ) → (numbers : List ℕ) → insert_key nat_cmp numbers n ≡ put_in nat_cmp n numbers
inserted_is_put n [] = refl
inserted_is_put n (first ∷ others) = put_at (nat_cmp n first) n first others (insert_key nat_cmp others n) (put_in nat_cmp n others) (inserted_is_put n others)

-- two numbers tie where they are one
equal_at : (b : Bool) → is_eq (cond b Equal Greater) ≡ b
equal_at true = refl
equal_at false = refl

same_at : (k q : ℕ) (b : Bool) → nat_lt k q ≡ b → is_eq (cond b Less (cond (k == q) Equal Greater)) ≡ (k == q)
same_at k q true low = let below : k < q = below_test k q low in sym (ne_eqb k q (omega arith))
same_at k q false low = equal_at (k == q)

same_number : (k q : ℕ) → is_eq (nat_cmp k q) ≡ (k == q)
same_number k q = same_at k q (nat_lt k q) refl

one_more : (b c : Bool) → cond b true c ≡ (c || (b || false))
one_more true true = refl
one_more true false = refl
one_more false true = refl
one_more false false = refl

-- the set of one number more
pub number_more : (numbers : List ℕ) (i number : ℕ) (old new : BTreeSet ℕ) → HasNumbers (take i numbers) old → i < length numbers → number ≡ get_or numbers i number
    → ((q : ℕ) → contains nat_cmp new q ≡ cond (is_eq (nat_cmp number q)) true (contains nat_cmp old q)) → HasNumbers (take (i + 1) numbers) new
number_more numbers i number old new has within is updates q =
    let more : take (i + 1) numbers ≡ take i numbers ++ number ∷ [] = take_more numbers i number within ∙ ap (λ z. take i numbers ++ z ∷ []) (sym is) in
    updates q
    ∙ ap (λ b. cond b true (contains nat_cmp old q)) (same_number number q)
    ∙ one_more (number == q) (contains nat_cmp old q)
    ∙ ap (λ b. b || ((number == q) || false)) (has q)
    ∙ sym (list_any-append (λ m. m == q) (take i numbers) (number ∷ []))
    ∙ sym (ap (list_any (λ m. m == q)) more)

-- the lost ones of one number more
kept_at : (there : Bool) (number : ℕ) (rest : List ℕ) → cond there (ordered nat_cmp rest) (put_in nat_cmp number (ordered nat_cmp rest)) ≡ ordered nat_cmp (cond (not there) (number ∷ rest) rest)
kept_at true number rest = refl
kept_at false number rest = refl

pub lost_more : (numbers before : List ℕ) (p number : ℕ) (current : BTreeSet ℕ) (there : Bool) (old new : List ℕ) → HasNumbers numbers current → drop (p - 1) before ≡ number ∷ drop p before → there ≡ contains nat_cmp current number → old
    ≡ ordered nat_cmp (filter (λ n. not (list_any (λ m. m == n) numbers)) (drop p before)) → new ≡ cond there old (insert_key nat_cmp old number) → new
    ≡ ordered nat_cmp (filter (λ n. not (list_any (λ m. m == n) numbers)) (drop (p - 1) before))
lost_more numbers before p number current there old new has more found sofar made =
    let lost : ℕ → Bool = λ n. not (list_any (λ m. m == n) numbers) in
    let rest : List ℕ = filter lost (drop p before) in
    let is_lost : not there ≡ lost number = ap not (found ∙ has number) in
    made
    ∙ ap (λ (z : List ℕ). cond there old z) (inserted_is_put number old)
    ∙ ap (λ (z : List ℕ). cond there z (put_in nat_cmp number z)) sofar
    ∙ kept_at there number rest
    ∙ ap (λ b. ordered nat_cmp (cond b (number ∷ rest) rest)) is_lost
    ∙ sym (ap (λ (z : List ℕ). ordered nat_cmp (filter lost z)) more)
