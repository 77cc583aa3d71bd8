-- Subscriptions and the pairs that they are kept as.
use Rattle.std.proofs.Common.{arith, ℕ, ◌≡◌, ◌==◌, List, [], ◌∷◌, map, Bool, true, false, not, cond, refl, ap, sym, ◌∙◌}
use Rattle.std.specs.Prelude.{if◌then◌else◌, ◌&&◌, ◌||◌, filter}
use Rattle.std.specs.Ordering.{nat_cmp}
use Rattle.std.specs.List.{list_any}
use Rattle.std.specs.BTreeMap.{is_at}
use Rattle.std.specs.BTreeSet.{BTreeSet, contains, IsOrdered}
use Rattle.std.proofs.lemmas.Bool.Decides.{nat_tests}
use Rattle.plane_words.specs.InOrder.{ordered}
use Rattle.ubus_table.specs.declared.rows.Subscription.{Subscription}
use Rattle.ubus_table.specs.Subscriptions.{same_subscription, has_subscription, is_alone, without, subscribers_of, targets_of}
use Rattle.ubus_table.specs.Objects.{touches, untouched}
use Rattle.ubus_state.specs.Pairs.{pair_cmp, has_first, seconds_in, HasPairs}
use Rattle.ubus_state.specs.SubscriptionRows.{to_pair, from_pair}
use Rattle.ubus_state.proofs.ListLemmas.{list_any_map, list_any_filter, filter_of_map}
use Rattle.ubus_state.proofs.PairLemmas.{and_either, any_alike, at_pair, filter_alike, has_as, pairs_removed, pairs_filtered, same_seconds}

-- a pair is that of a subscription
from_at : (one other : Subscription) → is_at (pair_cmp (from_pair one)) (from_pair other) ≡ same_subscription one other
from_at one other = at_pair (from_pair one) (from_pair other)

to_at : (one other : Subscription) → is_at (pair_cmp (to_pair one)) (to_pair other) ≡ same_subscription one other
to_at one other = at_pair (to_pair one) (to_pair other) ∙ and_either (one.target == other.target) (one.subscriber == other.subscriber)

pub has_from : (rows : List Subscription) (subscription : Subscription) → list_any (is_at (pair_cmp (from_pair subscription))) (map from_pair rows) ≡ has_subscription rows subscription
has_from rows subscription =
    list_any_map (is_at (pair_cmp (from_pair subscription))) from_pair rows
    ∙ any_alike (λ s. is_at (pair_cmp (from_pair subscription)) (from_pair s)) (same_subscription subscription) (from_at subscription) rows

pub has_to : (rows : List Subscription) (subscription : Subscription) → list_any (is_at (pair_cmp (to_pair subscription))) (map to_pair rows) ≡ has_subscription rows subscription
has_to rows subscription =
    list_any_map (is_at (pair_cmp (to_pair subscription))) to_pair rows
    ∙ any_alike (λ s. is_at (pair_cmp (to_pair subscription)) (to_pair s)) (same_subscription subscription) (to_at subscription) rows

-- ---- nobody is subscribed

without_is : (a b c d : ℕ) → (not (a == c && b == d) && d == b) ≡ (d == b && not (c == a))
without_is a b c d = grind (arith, nat_tests)

pub alone_without : (rows : List Subscription) (subscription : Subscription)
    → not (list_any (λ (s : Subscription). s.target == subscription.target && not (s.subscriber == subscription.subscriber)) rows) ≡ is_alone (without rows subscription) subscription.target
alone_without rows subscription = ap not (sym (
    list_any_filter (λ (s : Subscription). s.target == subscription.target) (λ other. not (same_subscription subscription other)) rows
    ∙ any_alike (λ (s : Subscription). not (same_subscription subscription s) && s.target == subscription.target) (λ (s : Subscription). s.target == subscription.target && not (s.subscriber == subscription.subscriber))
    (λ s. without_is subscription.subscriber subscription.target s.subscriber s.target) rows))

untouched_is : (a b n t : ℕ) → (t == n) ≡ false → (not (a == n || b == n) && b == t) ≡ (b == t && not (a == n))
untouched_is a b n t apart = grind (arith, nat_tests, apart)

pub alone_untouched : (rows : List Subscription) (number target : ℕ) → (target ≡ number → ⊥)
    → not (list_any (λ (s : Subscription). s.target == target && not (s.subscriber == number)) rows) ≡ is_alone (untouched number rows) target
alone_untouched rows number target apart = ap not (sym (
    list_any_filter (λ (s : Subscription). s.target == target) (λ s. not (touches number s)) rows
    ∙ any_alike (λ (s : Subscription). not (touches number s) && s.target == target) (λ (s : Subscription). s.target == target && not (s.subscriber == number))
    (λ s. untouched_is s.subscriber s.target number target (grind (arith, nat_tests, apart))) rows))

itself_is : (a b n t : ℕ) → (t == n) ≡ true → (not (a == n || b == n) && b == t) ≡ false
itself_is a b n t same = grind (arith, nat_tests, same)

none_passes : {X : Type 0} (xs : List X) → list_any (λ (x : X). false) xs ≡ false
none_passes [] = refl
none_passes (x ∷ xs) = none_passes xs

pub alone_itself : (rows : List Subscription) (number target : ℕ) → target ≡ number → (target == number) ≡ is_alone (untouched number rows) target
alone_itself rows number target same = is ∙ sym (ap not (
    list_any_filter (λ (s : Subscription). s.target == target) (λ s. not (touches number s)) rows
    ∙ any_alike (λ (s : Subscription). not (touches number s) && s.target == target) (λ (s : Subscription). false) (λ s. itself_is s.subscriber s.target number target is) rows
    ∙ none_passes rows))
  where
    is : (target == number) ≡ true
    is = grind (arith, nat_tests, same)

-- ---- who is subscribed, and to what

map_twice : {X Y Z : Type 0} (f : X → Y) (g : Y → Z) (xs : List X) → map g (map f xs) ≡ map (λ x. g (f x)) xs
map_twice f g [] = refl
map_twice {X} {Y} {Z} f g (x ∷ xs) = ap (λ (z : List Z). g (f x) ∷ z) (map_twice f g xs)

seconds_of_rows : (f : Subscription → ℕ × ℕ) (rows : List Subscription) (first : ℕ)
    → seconds_in first (map f rows) ≡ map (λ (s : Subscription). (f s).1) (filter (λ (s : Subscription). (f s).0 == first) rows)
seconds_of_rows f rows first =
    ap (map (λ (pair : ℕ × ℕ). pair.1)) (filter_of_map (has_first first) f rows)
    ∙ map_twice f (λ (pair : ℕ × ℕ). pair.1) (filter (λ (s : Subscription). (f s).0 == first) rows)

pub subscribers_in : (rows : List Subscription) (set : BTreeSet (ℕ × ℕ)) (target : ℕ) → IsOrdered pair_cmp set → HasPairs set (map to_pair rows)
    → seconds_in target set.keys ≡ subscribers_of rows target
subscribers_in rows set target sorted has = same_seconds target set (map to_pair rows) sorted has ∙ ap (ordered nat_cmp) (seconds_of_rows to_pair rows target)

pub targets_in : (rows : List Subscription) (set : BTreeSet (ℕ × ℕ)) (subscriber : ℕ) → IsOrdered pair_cmp set → HasPairs set (map from_pair rows)
    → seconds_in subscriber set.keys ≡ targets_of rows subscriber
targets_in rows set subscriber sorted has = same_seconds subscriber set (map from_pair rows) sorted has ∙ ap (ordered nat_cmp) (seconds_of_rows from_pair rows subscriber)

-- ---- subscriptions that come and go

taken : (f : Subscription → ℕ × ℕ) → ((one other : Subscription) → is_at (pair_cmp (f one)) (f other) ≡ same_subscription one other)
    → (old new : BTreeSet (ℕ × ℕ)) (rows later : List Subscription) (gone : Subscription) → HasPairs old (map f rows)
    → ((q : ℕ × ℕ) → contains pair_cmp new q ≡ cond (is_at (pair_cmp (f gone)) q) false (contains pair_cmp old q))
    → later ≡ without rows gone → HasPairs new (map f later)
taken f at old new rows later gone has out made =
    has_as new (map f later) (filter (λ pair. not (is_at (pair_cmp (f gone)) pair)) (map f rows))
    (ap (map f) (made ∙ sym (filter_alike (λ s. not (is_at (pair_cmp (f gone)) (f s))) (λ s. not (same_subscription gone s)) (λ s. ap not (at gone s)) rows))
    ∙ sym (filter_of_map (λ pair. not (is_at (pair_cmp (f gone)) pair)) f rows))
    (pairs_removed old new (map f rows) (f gone) has out)

pub taken_to : (old new : BTreeSet (ℕ × ℕ)) (rows later : List Subscription) (gone : Subscription) → HasPairs old (map to_pair rows)
    → ((q : ℕ × ℕ) → contains pair_cmp new q ≡ cond (is_at (pair_cmp (to_pair gone)) q) false (contains pair_cmp old q))
    → later ≡ without rows gone → HasPairs new (map to_pair later)
taken_to = taken to_pair to_at

pub taken_from : (old new : BTreeSet (ℕ × ℕ)) (rows later : List Subscription) (gone : Subscription) → HasPairs old (map from_pair rows)
    → ((q : ℕ × ℕ) → contains pair_cmp new q ≡ cond (is_at (pair_cmp (from_pair gone)) q) false (contains pair_cmp old q))
    → later ≡ without rows gone → HasPairs new (map from_pair later)
taken_from = taken from_pair from_at

pub left_of : (f : Subscription → ℕ × ℕ) (p : ℕ × ℕ → Bool) (old new : BTreeSet (ℕ × ℕ)) (rows later : List Subscription) → HasPairs old (map f rows)
    → new.keys ≡ filter p old.keys → later ≡ filter (λ s. p (f s)) rows → HasPairs new (map f later)
left_of f p old new rows later has kept made =
    has_as new (map f later) (filter p (map f rows)) (ap (map f) made ∙ sym (filter_of_map p f rows)) (pairs_filtered p old new (map f rows) has kept)

-- a subscription that is not there
pub absent_to : (rows : List Subscription) (from : BTreeSet (ℕ × ℕ)) (subscription : Subscription) → HasPairs from (map from_pair rows) → contains pair_cmp from (from_pair subscription) ≡ false
    → list_any (is_at (pair_cmp (to_pair subscription))) (map to_pair rows) ≡ false
absent_to rows from subscription has absent = has_to rows subscription ∙ sym (has_from rows subscription) ∙ sym (has (from_pair subscription)) ∙ absent

-- ---- what touches an object

or_apart : (a b c d : Bool) → ((a || b) || (c || d)) ≡ ((a || c) || (b || d))
or_apart true b c d = refl
or_apart false true true d = refl
or_apart false true false d = refl
or_apart false false c d = refl

pub any_either : {X : Type 0} (p q : X → Bool) (xs : List X) → (list_any p xs || list_any q xs) ≡ list_any (λ x. p x || q x) xs
any_either p q [] = refl
any_either p q (x ∷ xs) = or_apart (p x) (list_any p xs) (q x) (list_any q xs) ∙ ap (λ (z : Bool). (p x || q x) || z) (any_either p q xs)

pub none_touches : {X : Type 0} (p : X → Bool) (xs : List X) → list_any p xs ≡ false → xs ≡ filter (λ x. not (p x)) xs
none_touches p [] none = refl
none_touches {X} p (x ∷ xs) none = by_test (p x) none (none_touches p xs)
  where
    by_test : (b : Bool) → (b || list_any p xs) ≡ false → (list_any p xs ≡ false → xs ≡ filter (λ y. not (p y)) xs) → x ∷ xs ≡ (if not b then x ∷ filter (λ y. not (p y)) xs else filter (λ y. not (p y)) xs)
    by_test true some rest = cc some
    by_test false some rest = ap (λ (z : List X). x ∷ z) (rest some)
