-- Rows by rising number.
use Rattle.std.proofs.Common.{arith, ℕ, zero, suc, ◌≡◌, ◌<◌, ◌≤◌, ◌+◌, ◌==◌, List, [], ◌∷◌, ◌++◌, length, get_or, Bor, Bool, true, false, Option, Some, None, refl, ap, sym, ◌∙◌}
use Rattle.std.specs.Prelude.{if◌then◌else◌, ◌||◌, filter, remove, is_some}
use Rattle.std.specs.List.{All, find, list_any}
use Rattle.std.specs.List.Sorted.{IsNonDecreasingBy, IsPartitionPoint}
use Rattle.std.specs.Option.{option_copied}
use Rattle.std.specs.Slice.{IsItemAt}
use Rattle.std.proofs.lemmas.List.Elements.{All-get_or, All-from_get_or, All-filter, All-push, All-append, All-take, All-drop}
use Rattle.std.proofs.lemmas.Bool.Decides.{nat_tests}
use Rattle.ubus_state.specs.Rising.{IsRising, Rise}

-- the same, row by row
abbrev pub Climbs : {X : Type 0} → (X → ℕ) → List X → Type 0
Climbs number [] = Unit {0}
Climbs number (row ∷ rows) = All (λ other. number row < number other) rows × Climbs number rows

pub climbs : {X : Type 0} (number : X → ℕ) (rows : List X) → Rise number rows → Climbs number rows
climbs number [] rise = tt
climbs number (row ∷ rows) rise = (
  All-from_get_or (λ other. number row < number other) rows row (λ i within. rise 0 (suc i) row (omega arith) (omega arith)),
  climbs number rows (λ i j d lower within. rise (suc i) (suc j) d (omega arith) (omega arith)),
)

rises : {X : Type 0} (number : X → ℕ) (rows : List X) → Climbs number rows → Rise number rows
rises number [] climb i j d lower within = absurd (omega arith)
rises number (row ∷ rows) climb zero zero d lower within = absurd (omega arith)
rises number (row ∷ rows) climb zero (suc j) d lower within = All-get_or (λ other. number row < number other) rows j d (omega arith) climb.0
rises number (row ∷ rows) climb (suc i) zero d lower within = absurd (omega arith)
rises number (row ∷ rows) climb (suc i) (suc j) d lower within = rises number rows climb.1 i j d (omega arith) (omega arith)

pub climbs_filtered : {X : Type 0} (number : X → ℕ) (p : X → Bool) (rows : List X) → Climbs number rows → Climbs number (filter p rows)
climbs_filtered number p [] climb = tt
climbs_filtered {X} number p (row ∷ rows) climb = by_test (p row) (climbs_filtered number p rows climb.1)
  where
    by_test : (b : Bool) → Climbs number (filter p rows) → Climbs number (if b then row ∷ filter p rows else filter p rows)
    by_test true rest = (All-filter p (λ other. number row < number other) rows climb.0, rest)
    by_test false rest = rest

climbs_pushed : {X : Type 0} (number : X → ℕ) (rows : List X) (last : X) → Climbs number rows → All (λ row. number row < number last) rows → Climbs number (rows ++ last ∷ [])
climbs_pushed number [] last climb below = ((λ k d within. absurd (omega arith)), tt)
climbs_pushed number (row ∷ rows) last climb below = (All-push (λ other. number row < number other) rows last climb.0 (below 0 row (omega arith)), climbs_pushed number rows last climb.1 (λ k d within. below (suc k) d (omega arith)))

-- a row of the next number
pub rising_pushed : {X : Type 0} (number : X → ℕ) (rows : List X) (next : ℕ) (last : X) → IsRising number rows next → number last ≡ next → IsRising number (rows ++ last ∷ []) (number last + 1)
rising_pushed number rows next last rising is = (
  rises number (rows ++ last ∷ []) (climbs_pushed number rows last (climbs number rows rising.0) (λ k d within. let below = rising.1 k d within in omega (arith, below, is))),
  All-push (λ row. number row < number last + 1) rows last (λ k d within. let below = rising.1 k d within in omega (arith, below, is)) (omega arith),
)

-- all are below one of the next number
pub all_below : {X : Type 0} (number : X → ℕ) (rows : List X) (next : ℕ) (last : X) → IsRising number rows next → number last ≡ next → All (λ row. number row < number last) rows
all_below number rows next last rising is = λ k d within. let below = rising.1 k d within in omega (arith, below, is)

-- rows that pass a test
pub rising_filtered : {X : Type 0} (number : X → ℕ) (p : X → Bool) (rows : List X) (next : ℕ) → IsRising number rows next → IsRising number (filter p rows) next
rising_filtered number p rows next rising =
    (rises number (filter p rows) (climbs_filtered number p rows (climbs number rows rising.0)), All-filter p (λ row. number row < next) rows rising.1)

-- rows without one
all_removed : {X : Type 0} (P : X → Type 0) (rows : List X) (k : ℕ) → All P rows → All P (remove rows k)
all_removed P rows k all = All-append P _ _ (All-take P k rows all) (All-drop P (suc k) rows all)

climbs_removed : {X : Type 0} (number : X → ℕ) (rows : List X) (k : ℕ) → Climbs number rows → Climbs number (remove rows k)
climbs_removed number [] zero climb = tt
climbs_removed number [] (suc k) climb = tt
climbs_removed number (row ∷ rows) zero climb = climb.1
climbs_removed number (row ∷ rows) (suc k) climb = (all_removed (λ other. number row < number other) rows k climb.0, climbs_removed number rows k climb.1)

pub rising_removed : {X : Type 0} (number : X → ℕ) (rows : List X) (next k : ℕ) → IsRising number rows next → IsRising number (remove rows k) next
rising_removed number rows next k rising =
    (rises number (remove rows k) (climbs_removed number rows k (climbs number rows rising.0)), all_removed (λ row. number row < next) rows k rising.1)

pub rises_slowly : {X : Type 0} (number : X → ℕ) (rows : List X) → Rise number rows → IsNonDecreasingBy number rows
rises_slowly number rows rise i j d order within = by_order (i == j) refl
  where
    by_order : (b : Bool) → (i == j) ≡ b → number (get_or rows i d) ≤ number (get_or rows j d)
    by_order true e = let same : i ≡ j = grind (arith, nat_tests, e) in omega (arith, ap (λ k. number (get_or rows k d)) same)
    by_order false e = let less : i < j = grind (arith, nat_tests, e, order) in omega (arith, rise i j d less within)

none_of : {X : Type 0} (number : X → ℕ) (target : ℕ) (rows : List X) → ((k : ℕ) (d : X) → k < length rows → (number (get_or rows k d) == target) ≡ false) → find (λ row. number row == target) rows ≡ None
none_of number target [] others = refl
none_of number target (row ∷ rows) others =
    ap (λ (b : Bool). if b then Some row else find (λ other. number other == target) rows) (others 0 row (omega arith))
    ∙ none_of number target rows (λ k d within. others (suc k) d (omega arith))

pub above_differs : (n target : ℕ) → target < n → (n == target) ≡ false
above_differs n target above = grind (arith, nat_tests, above)

pub below_differs : (n target : ℕ) → n < target → (n == target) ≡ false
below_differs n target below = grind (arith, nat_tests, below)

-- where the rows before a place have lower numbers, and those from there on have not, the row of a number stands at the place
at_place : {X : Type 0} (number : X → ℕ) (target : ℕ) (rows : List X) (place : ℕ) (d : X) → Rise number rows
    → ((k : ℕ) (d : X) → k < place → number (get_or rows k d) < target) → target ≤ number (get_or rows place d) → place < length rows
    → find (λ row. number row == target) rows ≡ find (λ row. number row == target) (get_or rows place d ∷ [])
at_place number target [] place d rise below above within = absurd (omega arith)
at_place {X} number target (row ∷ rows) zero d rise below above within = by_test (number row == target) refl
  where
    by_test : (b : Bool) → (number row == target) ≡ b → find (λ other. number other == target) (row ∷ rows) ≡ find (λ other. number other == target) (row ∷ [])
    by_test true e =
        ap (λ (z : Bool). if z then Some row else find (λ other. number other == target) rows) e
        ∙ sym (ap (λ (z : Bool). if z then Some row else None) e)
    by_test false e =
        ap (λ (z : Bool). if z then Some row else find (λ other. number other == target) rows) e
        ∙ none_of number target rows (λ k d within. let later = rise 0 (suc k) d (omega arith) (omega arith) in above_differs (number (get_or rows k d)) target (omega (arith, later, above)))
        ∙ sym (ap (λ (z : Bool). if z then Some row else None) e)
at_place number target (row ∷ rows) (suc place) d rise below above within =
    ap (λ (b : Bool). if b then Some row else find (λ other. number other == target) rows) (below_differs (number row) target (below 0 row (omega arith)))
    ∙ at_place number target rows place d (λ i j d lower within. rise (suc i) (suc j) d (omega arith) (omega arith)) (λ k d lower. below (suc k) d (omega arith)) above (omega arith)

at_no_place : {X : Type 0} (number : X → ℕ) (target : ℕ) (rows : List X) (place : ℕ)
    → ((k : ℕ) (d : X) → k < place → number (get_or rows k d) < target) → length rows ≤ place
    → find (λ row. number row == target) rows ≡ None
at_no_place number target rows place below over = none_of number target rows (λ k d within. below_differs (number (get_or rows k d)) target (below k d (omega arith)))

-- what is read at the place before which the numbers are lower
abbrev pub Parts : {X : Type 0} → (X → ℕ) → ℕ → List X → ℕ → Type 0
Parts number target = IsPartitionPoint (λ row. number row < target) (λ row. target ≤ number row)

pub found_row : {X : Type 0} (number : X → ℕ) (target : ℕ) (rows : List X) (place : ℕ) (row : Bor X) → Rise number rows → Parts number target rows place
    → IsItemAt rows place (Some row) → find (λ other. number other == target) rows ≡ find (λ other. number other == target) (row.now ∷ [])
found_row {X} number target rows place row rise parts read =
    at_place number target rows place row.now rise (λ k d lower. parts.0 k d (omega arith) lower) (parts.1 place row.now (omega arith) read.3.0) read.3.0
    ∙ sym (ap (λ (x : X). find (λ other. number other == target) (x ∷ [])) read.1)

pub found_no_row : {X : Type 0} (number : X → ℕ) (target : ℕ) (rows : List X) (place : ℕ) → Parts number target rows place
    → IsItemAt rows place None → find (λ other. number other == target) rows ≡ None
found_no_row number target rows place parts read = at_no_place number target rows place (λ k d lower. parts.0 k d (omega arith) lower) read.3

-- something is found where one passes
some_at : {X : Type 0} (b c : Bool) (x : X) (found : Option X) → is_some found ≡ c → is_some (if b then Some x else found) ≡ (b || c)
some_at true c x found h = refl
some_at false c x found h = h

pub some_found : {X : Type 0} (p : X → Bool) (xs : List X) → is_some (find p xs) ≡ list_any p xs
some_found p [] = refl
some_found p (x ∷ xs) = some_at (p x) (list_any p xs) x (find p xs) (some_found p xs)

pub some_read : {X : Type 0} (read : Option (Bor X)) → is_some read ≡ is_some (option_copied read)
some_read None = refl
some_read (Some row) = refl
