-- Lists that are looked through, mapped and filtered.
use Rattle.std.proofs.Common.{arith, ℕ, zero, suc, ◌≡◌, ◌≤◌, ◌+◌, List, [], ◌∷◌, ◌++◌, map, length, drop, Bool, true, false, not, Option, Some, None, get_or, refl, ap, sym, subst, ◌∙◌, append-nil}
use Rattle.std.proofs.lemmas.List.{take_all, drop_all}
use Rattle.std.specs.Prelude.{if◌then◌else◌, ◌&&◌, ◌||◌, filter, remove, is_none, option_map}
use Rattle.std.specs.List.{find, position, position_from, list_any}
use Rattle.std.specs.Option.{option_or}
use Rattle.std.proofs.lemmas.List.Folds.{find-append}
use Rattle.std.proofs.lemmas.Iterator.Adapters.{position_from-zero}

-- a test after a function is a test of what the function gives
if_map : {X Y : Type 0} (f : X → Y) (b : Bool) (x y : List X) → map f (if b then x else y) ≡ (if b then map f x else map f y)
if_map f true x y = refl
if_map f false x y = refl

pub list_any_map : {X Y : Type 0} (p : Y → Bool) (f : X → Y) (xs : List X) → list_any p (map f xs) ≡ list_any (λ x. p (f x)) xs
list_any_map p f [] = refl
list_any_map p f (x ∷ xs) = ap (λ b. p (f x) || b) (list_any_map p f xs)

filter_map_at : {X Y : Type 0} (f : X → Y) (b : Bool) (x : X) (rest : List Y) (others : List X) → rest ≡ map f others → (if b then f x ∷ rest else rest) ≡ map f (if b then x ∷ others else others)
filter_map_at f true x rest others h = ap (λ z. f x ∷ z) h
filter_map_at f false x rest others h = h

pub filter_of_map : {X Y : Type 0} (p : Y → Bool) (f : X → Y) (xs : List X) → filter p (map f xs) ≡ map f (filter (λ x. p (f x)) xs)
filter_of_map p f [] = refl
filter_of_map p f (x ∷ xs) = filter_map_at f (p (f x)) x (filter p (map f xs)) (filter (λ y. p (f y)) xs) (filter_of_map p f xs)

pub remove_of_map : {X Y : Type 0} (f : X → Y) (xs : List X) (k : ℕ) → remove (map f xs) k ≡ map f (remove xs k)
remove_of_map f [] zero = refl
remove_of_map f [] (suc k) = refl
remove_of_map f (x ∷ xs) zero = refl
remove_of_map f (x ∷ xs) (suc k) = ap (λ z. f x ∷ z) (remove_of_map f xs k)

pub get_or_map : {X Y : Type 0} (f : X → Y) (xs : List X) (k : ℕ) (d : X) → get_or (map f xs) k (f d) ≡ f (get_or xs k d)
get_or_map f [] k d = refl
get_or_map f (x ∷ xs) zero d = refl
get_or_map f (x ∷ xs) (suc k) d = get_or_map f xs k d

position_from_map : {X Y : Type 0} (p : Y → Bool) (f : X → Y) (xs : List X) (i : ℕ) → position_from p i (map f xs) ≡ position_from (λ x. p (f x)) i xs
position_from_map p f [] i = refl
position_from_map p f (x ∷ xs) i = ap (λ (z : Option ℕ). if p (f x) then Some i else z) (position_from_map p f xs (i + 1))

pub position_of_map : {X Y : Type 0} (p : Y → Bool) (f : X → Y) (xs : List X) → position p (map f xs) ≡ position (λ x. p (f x)) xs
position_of_map p f xs = position_from-zero p (map f xs) ∙ position_from_map p f xs 0 ∙ sym (position_from-zero (λ x. p (f x)) xs)

found_of_map_at : {X Y : Type 0} (f : X → Y) (b : Bool) (x : X) (found : Option X) (other : Option Y) → other ≡ option_map f found → (if b then Some (f x) else other) ≡ option_map f (if b then Some x else found)
found_of_map_at f true x found other h = refl
found_of_map_at f false x found other h = h

pub find_of_map : {X Y : Type 0} (p : Y → Bool) (f : X → Y) (xs : List X) → find p (map f xs) ≡ option_map f (find (λ x. p (f x)) xs)
find_of_map p f [] = refl
find_of_map p f (x ∷ xs) = found_of_map_at f (p (f x)) x (find (λ y. p (f y)) xs) (find p (map f xs)) (find_of_map p f xs)

-- nothing is found where none passes
none_at : {X : Type 0} (b c : Bool) (x : X) (found : Option X) → is_none found ≡ not c → is_none (if b then Some x else found) ≡ not (b || c)
none_at true c x found h = refl
none_at false c x found h = h

pub none_found : {X : Type 0} (p : X → Bool) (xs : List X) → is_none (find p xs) ≡ not (list_any p xs)
none_found p [] = refl
none_found p (x ∷ xs) = none_at (p x) (list_any p xs) x (find p xs) (none_found p xs)

any_filter_at : {X : Type 0} (p : X → Bool) (b c : Bool) (x : X) (xs : List X) (rest : Bool) → p x ≡ c → list_any p xs ≡ rest → list_any p (if b then x ∷ xs else xs) ≡ ((b && c) || rest)
any_filter_at p true c x xs rest here h = ap (λ z. z || list_any p xs) here ∙ ap (λ z. c || z) h
any_filter_at p false c x xs rest here h = h

pub list_any_filter : {X : Type 0} (p q : X → Bool) (xs : List X) → list_any p (filter q xs) ≡ list_any (λ x. q x && p x) xs
list_any_filter p q [] = refl
list_any_filter p q (x ∷ xs) = any_filter_at p (q x) (p x) x (filter q xs) (list_any (λ y. q y && p y) xs) refl (list_any_filter p q xs)

-- all are kept
pub filter_every : {X : Type 0} (p : X → Bool) → ((x : X) → p x ≡ true) → (xs : List X) → filter p xs ≡ xs
filter_every p every [] = refl
filter_every p every (x ∷ xs) = ap (λ b. if b then x ∷ filter p xs else filter p xs) (every x) ∙ ap (λ z. x ∷ z) (filter_every p every xs)

-- one test and then another
filter_twice_at : {X : Type 0} (q : X → Bool) (b c : Bool) (x : X) (xs rest : List X) → q x ≡ c → filter q xs ≡ rest → filter q (if b then x ∷ xs else xs) ≡ (if b && c then x ∷ rest else rest)
filter_twice_at q true c x xs rest here h = ap (λ z. if z then x ∷ filter q xs else filter q xs) here ∙ ap (λ z. if c then x ∷ z else z) h
filter_twice_at q false c x xs rest here h = h

pub filter_twice : {X : Type 0} (p q r : X → Bool) → ((x : X) → r x ≡ (p x && q x)) → (xs : List X) → filter q (filter p xs) ≡ filter r xs
filter_twice p q r same [] = refl
filter_twice p q r same (x ∷ xs) =
    filter_twice_at q (p x) (q x) x (filter p xs) (filter r xs) refl (filter_twice p q r same xs)
    ∙ ap (λ z. if z then x ∷ filter r xs else filter r xs) (sym (same x))

-- the first is at this index
pub record FirstAt {X : Type 0} (p : X → Bool) (xs : List X) (k : ℕ) : Type 0 where
  pub found : (d : X) → find p xs ≡ Some (get_or xs k d)

first_from : {X : Type 0} (p : X → Bool) (xs : List X) (i k : ℕ) → position_from p i xs ≡ Some k → (j : ℕ) × (k ≡ i + j) × FirstAt p xs j
first_from p [] i k h = absurd (no h)
  where
    no : None ≡ Some k → ⊥
    no e = grind (arith, e)
first_from {X} p (x ∷ xs) i k h = by_test (p x) refl h (first_from p xs (i + 1) k)
  where
    by_test : (b : Bool) → p x ≡ b → (if b then Some i else position_from p (i + 1) xs) ≡ Some k → (position_from p (i + 1) xs ≡ Some k → (j : ℕ) × (k ≡ i + 1 + j) × FirstAt p xs j) → (j : ℕ) × (k ≡ i + j) × FirstAt p (x ∷ xs) j
    by_test true e here more = (0, grind (arith, here), record { found = λ d. rw e refl })
    by_test false e here more = let m = more here in let found = m.2.found in (suc m.0, (let at = m.1 in omega (arith, at)), record { found = λ d. rw e (found d) })

pub first_at : {X : Type 0} (p : X → Bool) (xs : List X) (k : ℕ) → position p xs ≡ Some k → FirstAt p xs k
first_at p xs k h = let f = first_from p xs 0 k (sym (position_from-zero p xs) ∙ h) in subst (FirstAt p xs) (let at = f.1 in omega (arith, at)) f.2

none_from : {X : Type 0} (p : X → Bool) (xs : List X) (i : ℕ) → position_from p i xs ≡ None → find p xs ≡ None
none_from p [] i h = refl
none_from p (x ∷ xs) i h = let more = none_from p xs (i + 1) in grind (arith, h, more)

pub first_none : {X : Type 0} (p : X → Bool) (xs : List X) → position p xs ≡ None → find p xs ≡ None
first_none p xs h = none_from p xs 0 (sym (position_from-zero p xs) ∙ h)

-- what is found in the first of two lists, or else in the second
pub found_first : {X : Type 0} (p : X → Bool) (xs ys : List X) (x : X) → find p xs ≡ Some x → find p (xs ++ ys) ≡ Some x
found_first p xs ys x h = find-append p xs ys ∙ ap (λ z. option_or z (find p ys)) h

pub found_later : {X : Type 0} (p : X → Bool) (xs ys : List X) → find p xs ≡ None → find p (xs ++ ys) ≡ find p ys
found_later p xs ys h = find-append p xs ys ∙ ap (λ z. option_or z (find p ys)) h

or_both : (a b c : Bool) → (a || (b || c)) ≡ ((a || b) || c)
or_both true b c = refl
or_both false b c = refl

pub any_of_both : {X : Type 0} (p : X → Bool) (xs ys : List X) → list_any p (xs ++ ys) ≡ (list_any p xs || list_any p ys)
any_of_both p [] ys = refl
any_of_both p (x ∷ xs) ys = ap (λ b. p x || b) (any_of_both p xs ys) ∙ or_both (p x) (list_any p xs) (list_any p ys)

pub any_first : {X : Type 0} (p : X → Bool) (xs ys : List X) → list_any p xs ≡ true → list_any p (xs ++ ys) ≡ true
any_first p xs ys h = any_of_both p xs ys ∙ ap (λ b. b || list_any p ys) h

pub any_later : {X : Type 0} (p : X → Bool) (xs ys : List X) → list_any p xs ≡ false → list_any p (xs ++ ys) ≡ list_any p ys
any_later p xs ys h = any_of_both p xs ys ∙ ap (λ b. b || list_any p ys) h

-- there is nothing at the end to be removed
pub remove_over : {X : Type 0} (xs : List X) (i : ℕ) → length xs ≤ i → remove xs i ≡ xs
remove_over xs i over = ap (λ z. z ++ drop (suc i) xs) (take_all i xs over) ∙ ap (λ z. xs ++ z) (drop_all (suc i) xs (omega arith)) ∙ append-nil xs

pub ruleset found_in = (found_first, found_later)

pub ruleset any_in = (any_first, any_later)
