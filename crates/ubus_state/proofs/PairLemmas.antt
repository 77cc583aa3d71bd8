-- Sets of pairs of numbers.
use Rattle.std.proofs.Common.{arith, ℕ, ◌≡◌, ◌+◌, ◌==◌, List, [], ◌∷◌, ◌++◌, map, Bool, true, false, not, cond, refl, ap, sym, ◌∙◌}
use Rattle.std.specs.Prelude.{if◌then◌else◌, ◌&&◌, ◌||◌, filter, nat_eq}
use Rattle.std.specs.Ordering.{nat_cmp, ordering_then, is_eq, is_le}
use Rattle.std.specs.declared.cmp.Ordering.{Ordering}
use Rattle.std.specs.declared.cmp.Ordering.TheVariants.{Less, Equal}
use Rattle.std.specs.declared.ops.Bound.TheVariants.{Included, Excluded}
use Rattle.std.specs.List.{list_any, AllByRecursion}
use Rattle.std.specs.List.Sorted.{IsStrictlySortedBy}
use Rattle.std.specs.Cmp.{IsTotalOrder, both_tied, both_ways, unsigned_ties, nat_cmp_total, nat_eq_equiv, tied_itself}
use Rattle.std.specs.BTreeMap.{is_at}
use Rattle.std.specs.BTreeMap.Range.{range_contains}
use Rattle.std.specs.BTreeSet.{BTreeSet, contains, IsOrdered}
use Rattle.std.proofs.lemmas.Bool.Decides.{nat_tests}
use Rattle.std.proofs.lemmas.Cmp.{on_total, then_total}
use Rattle.std.proofs.lemmas.List.{map-append}
use Rattle.std.proofs.lemmas.List.Folds.{list_any-append}
use Rattle.std.proofs.lemmas.Map.Lookups.{exact_unsigned, exact_pairs}
use Rattle.std.proofs.lemmas.Map.Views.{any-filter_same, Contains-from_any, list_any-from_Contains, exact_unsigned_eq, tells_apart}
use Rattle.plane_words.specs.InOrder.{ordered}
use Rattle.plane_words.proofs.OrderLemmas.{one_list}
use Rattle.plane_words.proofs.OrderedLemmas.{ordered_lists}
use Rattle.ubus_state.specs.Pairs.{pair_cmp, has_first, seconds_in, HasPairs}
use Rattle.ubus_state.proofs.ListLemmas.{list_any_map}

pub pairs_total : IsTotalOrder pair_cmp
pairs_total = then_total (on_total (λ (p : ℕ × ℕ). p.0) nat_cmp_total) (on_total (λ (p : ℕ × ℕ). p.1) nat_cmp_total)

pub pairs_apart : (a b : ℕ × ℕ) → pair_cmp a b ≡ Equal → a ≡ b
pairs_apart = exact_pairs nat_cmp nat_cmp exact_unsigned exact_unsigned

-- pairs compare equal where both numbers are the same
pub at_pair : (a b : ℕ × ℕ) → is_at (pair_cmp a) b ≡ (a.0 == b.0 && a.1 == b.1)
at_pair a b = sym (both_tied (a.0 == b.0) (a.1 == b.1) (nat_cmp a.0 b.0) (nat_cmp a.1 b.1) (unsigned_ties a.0 b.0) (unsigned_ties a.1 b.1))

same_either : (a b : ℕ) → (a == b) ≡ (b == a)
same_either a b = grind (arith, nat_tests)

pub and_either : (a b : Bool) → (a && b) ≡ (b && a)
and_either true true = refl
and_either true false = refl
and_either false true = refl
and_either false false = refl

pub at_either : (a b : ℕ × ℕ) → is_at (pair_cmp a) b ≡ is_at (pair_cmp b) a
at_either a b = at_pair a b ∙ ap (λ (z : Bool). z && a.1 == b.1) (same_either a.0 b.0) ∙ ap (λ (z : Bool). b.0 == a.0 && z) (same_either a.1 b.1) ∙ sym (at_pair b a)

-- ---- the pairs of a first number

zero_up : (n : ℕ) → is_le (nat_cmp 0 n) ≡ true
zero_up n = grind (arith, nat_tests)

-- a pair lies between the two bounds where it has the number
between_is : (first a b : ℕ) → (is_le (ordering_then (nat_cmp first a) (nat_cmp 0 b)) && not (is_le (ordering_then (nat_cmp (first + 1) a) (nat_cmp 0 b)))) ≡ (a == first)
between_is first a b = grind (arith, nat_tests)

pub filter_alike : {X : Type 0} (p q : X → Bool) → ((x : X) → p x ≡ q x) → (xs : List X) → filter p xs ≡ filter q xs
filter_alike p q alike [] = refl
filter_alike {X} p q alike (x ∷ xs) = ap (λ (b : Bool). if b then x ∷ filter p xs else filter p xs) (alike x) ∙ ap (λ (z : List X). if q x then x ∷ z else z) (filter_alike p q alike xs)

pub any_alike : {X : Type 0} (p q : X → Bool) → ((x : X) → p x ≡ q x) → (xs : List X) → list_any p xs ≡ list_any q xs
any_alike p q alike [] = refl
any_alike p q alike (x ∷ xs) = ap (λ (b : Bool). b || list_any p xs) (alike x) ∙ ap (λ (b : Bool). q x || b) (any_alike p q alike xs)

pub pairs_between : (first : ℕ) (pairs : List (ℕ × ℕ)) → filter (range_contains pair_cmp (Included (first, 0)) (Excluded (first + 1, 0))) pairs ≡ filter (has_first first) pairs
pairs_between first pairs = filter_alike (range_contains pair_cmp (Included (first, 0)) (Excluded (first + 1, 0))) (has_first first) (λ pair. between_is first pair.0 pair.1) pairs

-- ---- their second numbers

later_is : (a b c d first : ℕ) → (a == first) ≡ true → (c == first) ≡ true → ordering_then (nat_cmp a c) (nat_cmp b d) ≡ Less → nat_cmp b d ≡ Less
later_is a b c d first one other less = grind (arith, nat_tests, one, other, less)

later_seconds : (first : ℕ) (pair : ℕ × ℕ) (pairs : List (ℕ × ℕ)) → has_first first pair ≡ true → AllByRecursion (λ other. pair_cmp pair other ≡ Less) pairs
    → AllByRecursion (λ n. nat_cmp pair.1 n ≡ Less) (seconds_in first pairs)
later_seconds first pair [] own above = tt
later_seconds first pair (other ∷ pairs) own above = by_first (has_first first other) refl (later_seconds first pair pairs own above.1)
  where
    by_first : (b : Bool) → has_first first other ≡ b → AllByRecursion (λ n. nat_cmp pair.1 n ≡ Less) (seconds_in first pairs)
        → AllByRecursion (λ n. nat_cmp pair.1 n ≡ Less) (map (λ (p : ℕ × ℕ). p.1) (if b then other ∷ filter (has_first first) pairs else filter (has_first first) pairs))
    by_first true e rest = (later_is pair.0 pair.1 other.0 other.1 first own e above.0, rest)
    by_first false e rest = rest

seconds_sorted : (first : ℕ) (pairs : List (ℕ × ℕ)) → IsStrictlySortedBy pair_cmp pairs → IsStrictlySortedBy nat_cmp (seconds_in first pairs)
unfolding IsStrictlySortedBy
seconds_sorted first [] sorted = tt
seconds_sorted first (pair ∷ pairs) sorted = by_first (has_first first pair) refl (seconds_sorted first pairs sorted.1)
  where
    by_first : (b : Bool) → has_first first pair ≡ b → IsStrictlySortedBy nat_cmp (seconds_in first pairs)
        → IsStrictlySortedBy nat_cmp (map (λ (p : ℕ × ℕ). p.1) (if b then pair ∷ filter (has_first first) pairs else filter (has_first first) pairs))
    by_first true e rest = (later_seconds first pair pairs e sorted.0, rest)
    by_first false e rest = rest

-- a number stands among them where its pair is there
second_there : (first second : ℕ) (pairs : List (ℕ × ℕ)) → list_any (nat_eq second) (seconds_in first pairs) ≡ list_any (is_at (pair_cmp (first, second))) pairs
second_there first second [] = refl
second_there first second (pair ∷ pairs) = by_first (has_first first pair) refl (second_there first second pairs)
  where
    by_first : (b : Bool) → has_first first pair ≡ b → list_any (nat_eq second) (seconds_in first pairs) ≡ list_any (is_at (pair_cmp (first, second))) pairs
        → list_any (nat_eq second) (map (λ (p : ℕ × ℕ). p.1) (if b then pair ∷ filter (has_first first) pairs else filter (has_first first) pairs))
        ≡ (is_at (pair_cmp (first, second)) pair || list_any (is_at (pair_cmp (first, second))) pairs)
    by_first true e rest =
        ap (λ (z : Bool). (second == pair.1) || z) rest
        ∙ sym (ap (λ (z : Bool). (z && second == pair.1) || list_any (is_at (pair_cmp (first, second))) pairs) (same_either first pair.0 ∙ e))
        ∙ sym (ap (λ (z : Bool). z || list_any (is_at (pair_cmp (first, second))) pairs) (at_pair (first, second) pair))
    by_first false e rest =
        rest
        ∙ sym (ap (λ (z : Bool). (z && second == pair.1) || list_any (is_at (pair_cmp (first, second))) pairs) (same_either first pair.0 ∙ e))
        ∙ sym (ap (λ (z : Bool). z || list_any (is_at (pair_cmp (first, second))) pairs) (at_pair (first, second) pair))

-- of a set with the pairs of a list they are those of the list, in order
pub same_seconds : (first : ℕ) (set : BTreeSet (ℕ × ℕ)) (pairs : List (ℕ × ℕ)) → IsOrdered pair_cmp set → HasPairs set pairs
    → seconds_in first set.keys ≡ ordered nat_cmp (seconds_in first pairs)
same_seconds first set pairs sorted has =
    one_list nat_cmp_total member mine (ordered nat_cmp its) exact_unsigned
    (record {
      sorted = seconds_sorted first set.keys sorted;
      sound = λ n h. sym (same n) ∙ list_any-from_Contains nat_eq_equiv n mine h;
      complete = λ n h. Contains-from_any exact_unsigned_eq n mine (same n ∙ h);
    })
    (ordered_lists nat_cmp_total exact_unsigned member its (λ n h. list_any-from_Contains nat_eq_equiv n its h) (λ n h. Contains-from_any exact_unsigned_eq n its h))
  where
    mine : List ℕ
    mine = seconds_in first set.keys

    its : List ℕ
    its = seconds_in first pairs

    member : ℕ → Bool
    member n = list_any (nat_eq n) its

    same : (n : ℕ) → list_any (nat_eq n) mine ≡ member n
    same n = second_there first n set.keys ∙ has (first, n) ∙ sym (second_there first n pairs)

-- ---- a pair that passes a test

or_first : (a b : Bool) → a ≡ true → (a || b) ≡ true
or_first true b h = refl
or_first false b h = cc h

or_later : (a b : Bool) → b ≡ true → (a || b) ≡ true
or_later true b h = refl
or_later false b h = h

passes_at : (q : ℕ × ℕ → Bool) (pair : ℕ × ℕ) (pairs : List (ℕ × ℕ)) → q pair ≡ true → list_any (is_at (pair_cmp pair)) pairs ≡ true → list_any q pairs ≡ true
passes_at q pair [] passes there = there
passes_at q pair (other ∷ pairs) passes there = by_test (is_at (pair_cmp pair) other) refl there (passes_at q pair pairs passes)
  where
    by_test : (b : Bool) → is_at (pair_cmp pair) other ≡ b → (b || list_any (is_at (pair_cmp pair)) pairs) ≡ true → (list_any (is_at (pair_cmp pair)) pairs ≡ true → list_any q pairs ≡ true) → (q other || list_any q pairs) ≡ true
    by_test true e here rest = or_first (q other) (list_any q pairs) (sym (ap q (tells_apart pairs_apart pair other e)) ∙ passes)
    by_test false e here rest = or_later (q other) (list_any q pairs) (rest here)

-- what is in the one list is in the other
abbrev AllThere : List (ℕ × ℕ) → List (ℕ × ℕ) → Type 0
AllThere pairs others = (pair : ℕ × ℕ) → list_any (is_at (pair_cmp pair)) pairs ≡ true → list_any (is_at (pair_cmp pair)) others ≡ true

passes_there : (q : ℕ × ℕ → Bool) (pairs others : List (ℕ × ℕ)) → AllThere pairs others → list_any q pairs ≡ true → list_any q others ≡ true
passes_there q [] others all some = cc some
passes_there q (pair ∷ pairs) others all some = by_test (q pair) refl some (passes_there q pairs others)
  where
    by_test : (b : Bool) → q pair ≡ b → (b || list_any q pairs) ≡ true → (AllThere pairs others → list_any q pairs ≡ true → list_any q others ≡ true) → list_any q others ≡ true
    by_test true e here rest = passes_at q pair others e (all pair (or_first (is_at (pair_cmp pair) pair) (list_any (is_at (pair_cmp pair)) pairs) (ap (λ (r : Ordering). is_eq r) (tied_itself pairs_total pair))))
    by_test false e here rest = rest (λ other there. all other (or_later (is_at (pair_cmp other) pair) (list_any (is_at (pair_cmp other)) pairs) there)) here

-- what passes a test in a set with the pairs of a list passes it in the list
pub any_pair : (q : ℕ × ℕ → Bool) (set : BTreeSet (ℕ × ℕ)) (pairs : List (ℕ × ℕ)) → HasPairs set pairs → list_any q set.keys ≡ list_any q pairs
any_pair q set pairs has = both_ways (list_any q set.keys) (list_any q pairs)
    (passes_there q set.keys pairs (λ pair there. sym (has pair) ∙ there))
    (passes_there q pairs set.keys (λ pair there. has pair ∙ there))

-- ---- pairs that come and go

there_or : (is was : Bool) → cond is true was ≡ (was || is)
there_or true true = refl
there_or true false = refl
there_or false true = refl
there_or false false = refl

or_none : (b : Bool) → (b || false) ≡ b
or_none true = refl
or_none false = refl

pub pairs_pushed : (old new : BTreeSet (ℕ × ℕ)) (pairs : List (ℕ × ℕ)) (pair : ℕ × ℕ) → HasPairs old pairs
    → ((q : ℕ × ℕ) → contains pair_cmp new q ≡ cond (is_at (pair_cmp pair) q) true (contains pair_cmp old q)) → HasPairs new (pairs ++ pair ∷ [])
pairs_pushed old new pairs pair has put q =
    put q
    ∙ there_or (is_at (pair_cmp pair) q) (contains pair_cmp old q)
    ∙ ap (λ (z : Bool). z || is_at (pair_cmp pair) q) (has q)
    ∙ ap (λ (z : Bool). list_any (is_at (pair_cmp q)) pairs || z) (at_either pair q ∙ sym (or_none (is_at (pair_cmp q) pair)))
    ∙ sym (list_any-append (is_at (pair_cmp q)) pairs (pair ∷ []))

gone_and : (is was : Bool) → cond is false was ≡ (not is && was)
gone_and true was = refl
gone_and false was = refl

pub pairs_removed : (old new : BTreeSet (ℕ × ℕ)) (pairs : List (ℕ × ℕ)) (pair : ℕ × ℕ) → HasPairs old pairs
    → ((q : ℕ × ℕ) → contains pair_cmp new q ≡ cond (is_at (pair_cmp pair) q) false (contains pair_cmp old q)) → HasPairs new (filter (λ other. not (is_at (pair_cmp pair) other)) pairs)
pairs_removed old new pairs pair has taken q =
    taken q
    ∙ gone_and (is_at (pair_cmp pair) q) (contains pair_cmp old q)
    ∙ ap (λ (z : Bool). not (is_at (pair_cmp pair) q) && z) (has q)
    ∙ sym (any-filter_same (is_at (pair_cmp q)) (λ other. not (is_at (pair_cmp pair) other)) (not (is_at (pair_cmp pair) q)) (λ other same. ap (λ (p : ℕ × ℕ). not (is_at (pair_cmp pair) p)) (sym (tells_apart pairs_apart q other same)))
    pairs)

pub pairs_filtered : (p : ℕ × ℕ → Bool) (old new : BTreeSet (ℕ × ℕ)) (pairs : List (ℕ × ℕ)) → HasPairs old pairs → new.keys ≡ filter p old.keys → HasPairs new (filter p pairs)
pairs_filtered p old new pairs has kept q =
    ap (list_any (is_at (pair_cmp q))) kept
    ∙ any-filter_same (is_at (pair_cmp q)) p (p q) (alike q) old.keys
    ∙ ap (λ (z : Bool). p q && z) (has q)
    ∙ sym (any-filter_same (is_at (pair_cmp q)) p (p q) (alike q) pairs)
  where
    alike : (q other : ℕ × ℕ) → is_at (pair_cmp q) other ≡ true → p other ≡ p q
    alike q other same = ap p (sym (tells_apart pairs_apart q other same))

put_and_taken : (is was : Bool) → (is ≡ true → was ≡ false) → cond is false (cond is true was) ≡ was
put_and_taken true was absent = sym (absent refl)
put_and_taken false was absent = refl

-- a pair that was not there is put in, and taken out again
pub pairs_back : (old more new : BTreeSet (ℕ × ℕ)) (pairs : List (ℕ × ℕ)) (pair : ℕ × ℕ) → HasPairs old pairs → list_any (is_at (pair_cmp pair)) pairs ≡ false
    → ((q : ℕ × ℕ) → contains pair_cmp more q ≡ cond (is_at (pair_cmp pair) q) true (contains pair_cmp old q))
    → ((q : ℕ × ℕ) → contains pair_cmp new q ≡ cond (is_at (pair_cmp pair) q) false (contains pair_cmp more q)) → HasPairs new pairs
pairs_back old more new pairs pair has absent put taken q =
    taken q
    ∙ ap (λ (z : Bool). cond (is_at (pair_cmp pair) q) false z) (put q)
    ∙ put_and_taken (is_at (pair_cmp pair) q) (contains pair_cmp old q) (λ same. has q ∙ ap (λ (p : ℕ × ℕ). list_any (is_at (pair_cmp p)) pairs) (sym (tells_apart pairs_apart pair q same)) ∙ absent)
    ∙ has q

-- a set as it was
pub same_keys : (old new : BTreeSet (ℕ × ℕ)) (pairs : List (ℕ × ℕ)) → new.keys ≡ old.keys → HasPairs old pairs → HasPairs new pairs
same_keys old new pairs same has q = ap (list_any (is_at (pair_cmp q))) same ∙ has q

-- what a change does at a pair
pub updates_at : (old new : BTreeSet (ℕ × ℕ)) (key pair : ℕ × ℕ) (b : Bool) → key ≡ pair
    → ((q : ℕ × ℕ) → contains pair_cmp new q ≡ cond (is_at (pair_cmp key) q) b (contains pair_cmp old q))
    → (q : ℕ × ℕ) → contains pair_cmp new q ≡ cond (is_at (pair_cmp pair) q) b (contains pair_cmp old q)
updates_at old new key pair b is update q = update q ∙ ap (λ (p : ℕ × ℕ). cond (is_at (pair_cmp p) q) b (contains pair_cmp old q)) is

-- ---- pairs of rows

pub has_as : (set : BTreeSet (ℕ × ℕ)) (pairs others : List (ℕ × ℕ)) → pairs ≡ others → HasPairs set others → HasPairs set pairs
has_as set pairs others same has q = has q ∙ sym (ap (list_any (is_at (pair_cmp q))) same)

-- what is asked of the pairs is asked of the rows
pub any_row : {X : Type 0} (f : X → ℕ × ℕ) (q : ℕ × ℕ → Bool) (set : BTreeSet (ℕ × ℕ)) (rows : List X) → HasPairs set (map f rows) → list_any q set.keys ≡ list_any (λ x. q (f x)) rows
any_row f q set rows has = any_pair q set (map f rows) has ∙ list_any_map q f rows

-- a row that is put in
pub row_pushed : {X : Type 0} (f : X → ℕ × ℕ) (old new : BTreeSet (ℕ × ℕ)) (rows later : List X) (row : X) → HasPairs old (map f rows)
    → ((q : ℕ × ℕ) → contains pair_cmp new q ≡ cond (is_at (pair_cmp (f row)) q) true (contains pair_cmp old q))
    → later ≡ rows ++ row ∷ [] → HasPairs new (map f later)
row_pushed f old new rows later row has put made =
    has_as new (map f later) (map f rows ++ f row ∷ []) (ap (map f) made ∙ map-append f rows (row ∷ [])) (pairs_pushed old new (map f rows) (f row) has put)
