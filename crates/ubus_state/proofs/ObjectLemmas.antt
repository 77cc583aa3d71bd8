-- Objects and the pairs that they are found by.
use Rattle.std.proofs.Common.{arith, ℕ, zero, suc, ◌≡◌, ◌<◌, ◌+◌, ◌==◌, List, [], ◌∷◌, map, length, take, get_or, Bool, true, false, not, Option, Some, None, Contains, cond, refl, ap, ap₂, sym, subst, ◌∙◌}
use Rattle.std.specs.Prelude.{if◌then◌else◌, ◌&&◌, ◌||◌, filter, remove, nat_eq, unwrap_or}
use Rattle.std.specs.Ordering.{nat_cmp, is_eq}
use Rattle.std.specs.declared.cmp.Ordering.TheVariants.{Less}
use Rattle.std.specs.List.{All, AllByRecursion, find, list_any, position}
use Rattle.std.specs.List.Sorted.{IsStrictlySortedBy}
use Rattle.std.specs.Cmp.{nat_cmp_total, nat_eq_equiv, tied_itself}
use Rattle.std.specs.BTreeMap.{is_at}
use Rattle.std.specs.BTreeSet.{BTreeSet, contains, IsOrdered}
use Rattle.std.proofs.lemmas.Bool.Decides.{nat_tests}
use Rattle.std.proofs.lemmas.List.{take_more}
use Rattle.std.proofs.lemmas.List.Folds.{list_any-append}
use Rattle.std.proofs.lemmas.List.Elements.{All-head, All-tail, All-filter}
use Rattle.std.proofs.lemmas.Map.Lookups.{exact_unsigned}
use Rattle.std.proofs.lemmas.Map.Views.{Contains-from_any, list_any-from_Contains, exact_unsigned_eq}
use Rattle.plane_words.specs.InOrder.{ordered}
use Rattle.plane_words.proofs.OrderLemmas.{one_list}
use Rattle.plane_words.proofs.OrderedLemmas.{ordered_lists}
use Rattle.ubus_table.specs.Table.{has_number}
use Rattle.ubus_table.specs.declared.rows.Object.{Object}
use Rattle.ubus_state.specs.Among.{is_among, objects_but}
use Rattle.ubus_state.specs.Pairs.{pair_cmp, has_first, seconds_in, HasPairs}
use Rattle.ubus_state.proofs.ListLemmas.{filter_twice, first_at}
use Rattle.ubus_state.proofs.RisingLemmas.{Climbs, climbs_filtered, above_differs, below_differs}
use Rattle.ubus_state.proofs.PairLemmas.{at_pair, has_as, pairs_removed, pairs_total, same_seconds}

less_is : (a b : ℕ) → a < b → nat_cmp a b ≡ Less
less_is a b h = grind (arith, nat_tests, h)

same_is : (a b : ℕ) → a ≡ b → (a == b) ≡ true
same_is a b h = grind (arith, nat_tests, h)

and_false : (b : Bool) → (b && false) ≡ false
and_false true = refl
and_false false = refl

-- numbers in order stay as they are
ordered_same : (ns : List ℕ) → IsStrictlySortedBy nat_cmp ns → ordered nat_cmp ns ≡ ns
ordered_same ns sorted =
    one_list nat_cmp_total member (ordered nat_cmp ns) ns exact_unsigned (ordered_lists nat_cmp_total exact_unsigned member ns sound complete)
    (record { sorted = sorted; sound = sound; complete = complete })
  where
    member : ℕ → Bool
    member n = list_any (nat_eq n) ns

    sound : (n : ℕ) → Contains ns n → member n ≡ true
    sound n h = list_any-from_Contains nat_eq_equiv n ns h

    complete : (n : ℕ) → member n ≡ true → Contains ns n
    complete n h = Contains-from_any exact_unsigned_eq n ns h

-- where none is found all stay
pub kept_whole : {X : Type 0} (p : X → Bool) (rows : List X) → find p rows ≡ None → rows ≡ filter (λ row. not (p row)) rows
kept_whole p [] none = refl
kept_whole {X} p (row ∷ rows) none = by_test (p row) none (kept_whole p rows)
  where
    by_test : (b : Bool) → (if b then Some row else find p rows) ≡ None → (find p rows ≡ None → rows ≡ filter (λ other. not (p other)) rows)
        → row ∷ rows ≡ (if not b then row ∷ filter (λ other. not (p other)) rows else filter (λ other. not (p other)) rows)
    by_test true h rest = absurd (let never : Some row ≡ None = h in cc never)
    by_test false h rest = ap (λ (z : List X). row ∷ z) (rest h)

-- what is found passes the test
found_passes : {X : Type 0} (p : X → Bool) (rows : List X) (found : X) → find p rows ≡ Some found → p found ≡ true
found_passes p [] found is = absurd (let never : None ≡ Some found = is in cc never)
found_passes {X} p (row ∷ rows) found is = by_test (p row) refl (found_passes p rows found) is
  where
    by_test : (b : Bool) → p row ≡ b → (find p rows ≡ Some found → p found ≡ true) → (if b then Some row else find p rows) ≡ Some found → p found ≡ true
    by_test true passes rest h = subst (λ (x : X). p x ≡ true) (ap (λ (one : Option X). unwrap_or one found) h) passes
    by_test false fails rest h = rest h

equal_numbers : (a b : ℕ) → (a == b) ≡ true → a ≡ b
equal_numbers a b h = grind (arith, nat_tests, h)

-- the row of a number stands where it was found
pub number_there : {X : Type 0} (number : X → ℕ) (rows : List X) (place target : ℕ) (d : X) → position (λ row. number row == target) rows ≡ Some place → number (get_or rows place d) ≡ target
number_there number rows place target d at =
    equal_numbers (number (get_or rows place d)) target (found_passes (λ row. number row == target) rows (get_or rows place d) ((first_at (λ row. number row == target) rows place at).found d))

module _ {X : Type 0} (number : X → ℕ) where
  -- none of the later rows has the number of the first
  all_left : (target : ℕ) (rows : List X) → All (λ row. target < number row) rows → filter (λ row. not (number row == target)) rows ≡ rows
  all_left target [] above = refl
  all_left target (row ∷ rows) above =
      ap (λ (b : Bool). if not b then row ∷ filter (λ other. not (number other == target)) rows else filter (λ other. not (number other == target)) rows)
      (above_differs (number row) target (All-head (λ other. target < number other) row rows above))
      ∙ ap (λ (z : List X). row ∷ z) (all_left target rows (All-tail (λ other. target < number other) row rows above))

  -- without the row at a place there is none of its number
  pub removed_numbered : (rows : List X) (place target : ℕ) (d : X) → Climbs number rows → place < length rows → number (get_or rows place d) ≡ target
      → remove rows place ≡ filter (λ row. not (number row == target)) rows
  removed_numbered [] place target d climb within is = absurd (omega arith)
  removed_numbered (row ∷ rows) zero target d climb within is =
      sym (ap (λ (b : Bool). if not b then row ∷ filter (λ other. not (number other == target)) rows else filter (λ other. not (number other == target)) rows) (same_is (number row) target is)
      ∙ all_left target rows (subst (λ (n : ℕ). All (λ other. n < number other) rows) is climb.0))
  removed_numbered (row ∷ rows) (suc place) target d climb within is =
      ap (λ (z : List X). row ∷ z) (removed_numbered rows place target d climb.1 (omega (arith, within)) is)
      ∙ sym (ap (λ (b : Bool). if not b then row ∷ filter (λ other. not (number other == target)) rows else filter (λ other. not (number other == target)) rows)
      (below_differs (number row) target (let above = climb.0 place d (omega (arith, within)) in omega (arith, above, is))))

  -- the numbers of rows rise
  numbers_above : (n : ℕ) (rows : List X) → All (λ row. n < number row) rows → AllByRecursion (λ m. nat_cmp n m ≡ Less) (map number rows)
  numbers_above n [] above = tt
  numbers_above n (row ∷ rows) above =
      (less_is n (number row) (All-head (λ other. n < number other) row rows above), numbers_above n rows (All-tail (λ other. n < number other) row rows above))

  numbers_sorted : (rows : List X) → Climbs number rows → IsStrictlySortedBy nat_cmp (map number rows)
  unfolding IsStrictlySortedBy
  numbers_sorted [] climb = tt
  numbers_sorted (row ∷ rows) climb = (numbers_above (number row) rows climb.0, numbers_sorted rows climb.1)

  -- of rows that pass a test, the first one is found by its number
  pub none_kept : (p : X → Bool) (rows : List X) → map number (filter p rows) ≡ [] → find p rows ≡ None
  none_kept p [] none = refl
  none_kept p (row ∷ rows) none = by_test (p row) none (none_kept p rows)
    where
      by_test : (b : Bool) → map number (if b then row ∷ filter p rows else filter p rows) ≡ [] → (map number (filter p rows) ≡ [] → find p rows ≡ None) → (if b then Some row else find p rows) ≡ None
      by_test true h rest = absurd (let never : number row ∷ map number (filter p rows) ≡ [] = h in cc never)
      by_test false h rest = rest h

  pub first_kept : (p : X → Bool) (rows : List X) (n : ℕ) (ns : List ℕ) → Climbs number rows → map number (filter p rows) ≡ n ∷ ns
      → find (λ row. number row == n) rows ≡ find p rows
  first_kept p [] n ns climb first = absurd (let never : [] ≡ n ∷ ns = first in cc never)
  first_kept p (row ∷ rows) n ns climb first = by_test (p row) first (first_kept p rows n ns climb.1)
    where
      above : All (λ other. number row < number other) (filter p rows)
      above = All-filter p (λ other. number row < number other) rows climb.0

      head_above : (kept : List X) → All (λ other. number row < number other) kept → map number kept ≡ n ∷ ns → number row < n
      head_above [] all same = absurd (let never : [] ≡ n ∷ ns = same in cc never)
      head_above (other ∷ others) all same = subst (λ (m : ℕ). number row < m) (ap (λ (ms : List ℕ). get_or ms 0 n) same) (All-head (λ another. number row < number another) other others all)

      by_test : (b : Bool) → map number (if b then row ∷ filter p rows else filter p rows) ≡ n ∷ ns → (map number (filter p rows) ≡ n ∷ ns → find (λ other. number other == n) rows ≡ find p rows)
          → (if number row == n then Some row else find (λ other. number other == n) rows) ≡ (if b then Some row else find p rows)
      by_test true h rest = ap (λ (c : Bool). if c then Some row else find (λ other. number other == n) rows) (same_is (number row) n (ap (λ (ms : List ℕ). get_or ms 0 n) h))
      by_test false h rest = ap (λ (c : Bool). if c then Some row else find (λ other. number other == n) rows) (below_differs (number row) n (head_above (filter p rows) above h)) ∙ rest h

  module _ (f : X → ℕ × ℕ) (numbered : (row : X) → (f row).1 ≡ number row) where
    apart : (row other : X) → (number row ≡ number other → ⊥) → is_at (pair_cmp (f row)) (f other) ≡ false
    apart row other differ =
        at_pair (f row) (f other)
        ∙ ap (λ (b : Bool). (f row).0 == (f other).0 && b) (let far : (number row == number other) ≡ false = grind (arith, nat_tests, differ) in ap₂ (λ (n m : ℕ). n == m) (numbered row) (numbered other) ∙ far)
        ∙ and_false ((f row).0 == (f other).0)

    abbrev Left : X → ℕ × ℕ → Bool
    Left row pair = not (is_at (pair_cmp (f row)) pair)

    pairs_stay : (row : X) (rows : List X) → All (λ other. number row < number other) rows → filter (Left row) (map f rows) ≡ map f rows
    pairs_stay row [] above = refl
    pairs_stay row (other ∷ rows) above =
        ap (λ (b : Bool). if not b then f other ∷ filter (Left row) (map f rows) else filter (Left row) (map f rows))
        (apart row other (λ same. let later : number row < number other = All-head (λ another. number row < number another) other rows above in omega (arith, same, later)))
        ∙ ap (λ (z : List (ℕ × ℕ)). f other ∷ z) (pairs_stay row rows (All-tail (λ another. number row < number another) other rows above))

    -- the pair of the row at a place goes with it
    pairs_without : (rows : List X) (place : ℕ) (row : X) → Climbs number rows → place < length rows → row ≡ get_or rows place row
        → filter (Left row) (map f rows) ≡ map f (remove rows place)
    pairs_without [] place row climb within is = absurd (omega arith)
    pairs_without (first ∷ rows) zero row climb within is =
        ap (λ (b : Bool). if not b then f first ∷ filter (Left row) (map f rows) else filter (Left row) (map f rows)) (ap (λ (x : X). is_at (pair_cmp (f row)) (f x)) (sym is) ∙ ap is_eq (tied_itself pairs_total (f row)))
        ∙ pairs_stay row rows (subst (λ (x : X). All (λ other. number x < number other) rows) (sym is) climb.0)
    pairs_without (first ∷ rows) (suc place) row climb within is =
        ap (λ (b : Bool). if not b then f first ∷ filter (Left row) (map f rows) else filter (Left row) (map f rows))
        (apart row first (λ same. let above : number first < number (get_or rows place row) = climb.0 place row (omega (arith, within)) in let here : number row ≡ number (get_or rows place row) = ap number is in
        omega (arith, same, above, here)))
        ∙ ap (λ (z : List (ℕ × ℕ)). f first ∷ z) (pairs_without rows place row climb.1 (omega (arith, within)) is)

    pub row_taken : (old new : BTreeSet (ℕ × ℕ)) (rows later : List X) (place : ℕ) (row : X) → HasPairs old (map f rows) → Climbs number rows → place < length rows → row ≡ get_or rows place row
        → ((q : ℕ × ℕ) → contains pair_cmp new q ≡ cond (is_at (pair_cmp (f row)) q) false (contains pair_cmp old q)) → later ≡ remove rows place → HasPairs new (map f later)
    row_taken old new rows later place row has climb within is taken made =
        has_as new (map f later) (filter (Left row) (map f rows)) (ap (map f) made ∙ sym (pairs_without rows place row climb within is)) (pairs_removed old new (map f rows) (f row) has taken)

    -- a row of a new number has no pair yet
    pub no_pair : (row : X) (rows : List X) → All (λ other. number other < number row) rows → list_any (is_at (pair_cmp (f row))) (map f rows) ≡ false
    no_pair row [] below = refl
    no_pair row (other ∷ rows) below =
        ap (λ (b : Bool). b || list_any (is_at (pair_cmp (f row))) (map f rows))
        (apart row other (λ same. let lower : number other < number row = All-head (λ another. number another < number row) other rows below in omega (arith, same, lower)))
        ∙ no_pair row rows (All-tail (λ another. number another < number row) other rows below)

    beside : (first : ℕ) (rows : List X) → seconds_in first (map f rows) ≡ map number (filter (λ row. (f row).0 == first) rows)
    beside first [] = refl
    beside first (row ∷ rows) = by_test ((f row).0 == first) (beside first rows)
      where
        by_test : (b : Bool) → seconds_in first (map f rows) ≡ map number (filter (λ other. (f other).0 == first) rows)
            → map (λ (pair : ℕ × ℕ). pair.1) (if b then f row ∷ filter (has_first first) (map f rows) else filter (has_first first) (map f rows))
            ≡ map number (if b then row ∷ filter (λ other. (f other).0 == first) rows else filter (λ other. (f other).0 == first) rows)
        by_test true rest = ap₂ (λ (n : ℕ) (ns : List ℕ). n ∷ ns) (numbered row) rest
        by_test false rest = rest

    -- what stands beside a first number are the numbers of its rows, as they came
    pub numbers_in : (rows : List X) (set : BTreeSet (ℕ × ℕ)) (first : ℕ) → Climbs number rows → IsOrdered pair_cmp set → HasPairs set (map f rows)
        → seconds_in first set.keys ≡ map number (filter (λ row. (f row).0 == first) rows)
    numbers_in rows set first climb sorted has =
        same_seconds first set (map f rows) sorted has
        ∙ ap (ordered nat_cmp) (beside first rows)
        ∙ ordered_same (map number (filter (λ row. (f row).0 == first) rows)) (numbers_sorted (filter (λ row. (f row).0 == first) rows) (climbs_filtered number (λ row. (f row).0 == first) rows climb))

-- ---- objects of some numbers

not_or : (a b : Bool) → not (a || (b || false)) ≡ (not a && not b)
not_or true b = refl
not_or false true = refl
not_or false false = refl

same_number : (a b : ℕ) → (a == b) ≡ (b == a)
same_number a b = grind (arith, nat_tests)

-- the objects but those of one number more
pub but_more : (numbers : List ℕ) (i : ℕ) (rows : List Object) → i < length numbers
    → filter (λ (object : Object). not (has_number (get_or numbers i 0) object)) (objects_but (take i numbers) rows) ≡ objects_but (take (i + 1) numbers) rows
but_more numbers i rows within =
    filter_twice (λ (object : Object). not (is_among (take i numbers) object.number)) (λ (object : Object). not (has_number number object)) (λ (object : Object). not (is_among (take (i + 1) numbers) object.number)) more rows
  where
    gone : List ℕ
    gone = take i numbers

    number : ℕ
    number = get_or numbers i 0

    more : (object : Object) → not (is_among (take (i + 1) numbers) object.number) ≡ (not (is_among gone object.number) && not (has_number number object))
    more object =
        ap (λ (ns : List ℕ). not (is_among ns object.number)) (take_more numbers i 0 within)
        ∙ ap not (list_any-append (λ (n : ℕ). n == object.number) gone (number ∷ []))
        ∙ not_or (is_among gone object.number) (number == object.number)
        ∙ ap (λ (b : Bool). not (is_among gone object.number) && not b) (same_number number object.number)
