-- Gifts as the entries of a table: what is read and written there.
use Rattle.std.proofs.Common.{arith, ℕ, zero, suc, get_or, ◌≡◌, ◌<◌, [], ◌∷◌, ◌++◌, map, position, slice_get, slice_set, Contains, Option, Some, None, Bool, true, false, cond, refl, ap, sym, subst, ◌∙◌}
use Rattle.std.specs.Prelude.{is_some, if◌then◌else◌}
use Rattle.std.specs.List.{IsDistinct}
use Rattle.std.specs.Map.{keys_of, lookup}
use Rattle.std.specs.Option.{option_map_or}
use Rattle.std.proofs.lemmas.List.Quantifiers.{position-Some}
use Rattle.std.proofs.lemmas.Map.Keys.{IsDistinct-head, IsDistinct-tail}
use Rattle.indexmap.specs.IndexMap.{set_value_at, insert_entry}
use Rattle.kern_model.specs.declared.object.Object.{Object}
use Rattle.kern_model.specs.declared.object.Object.TheVariants as object
use Rattle.kern_model.proofs.MemberLemmas.{here, there, member_of_all, map_member}
use Rattle.kern_model.proofs.TestLemmas.{false_of_not}
use Rattle.given_objects.specs.declared.key.GiftKey.{GiftKey}
use Rattle.given_objects.specs.declared.gift.Gift.{Gift}
use Rattle.given_objects.specs.declared.gift.Counts.{Counts}
use Rattle.given_objects.specs.Gifts.{Gifts, gift_of, has_place, givers_of}
use Rattle.given_objects.specs.Changes.{changed, with_place, empty_gift, with_lost_link}
use Rattle.given_objects.specs.Keys.{key_eq}
use Rattle.given_objects.specs.Inside.{Entries, gift_in, listed}
use Rattle.given_objects.proofs.KeyLemmas.{key_same, key_itself}

abbrev pub key_of : Object → GiftKey
key_of o = record { 0 = o }

-- the entry at the place of a key
pair_at : (es : Entries) (i : ℕ) (c : Counts) (d : GiftKey) → slice_get (map (λ (e : GiftKey × Counts). e.1) es) i ≡ Some c → slice_get es i ≡ Some (get_or (keys_of es) i d, c)
pair_at [] i c d h = cc h
pair_at (e ∷ es) zero c d h = let is : e.1 ≡ c = cc h in ap (λ (x : Counts). Some (e.0, x)) is
pair_at (e ∷ es) (suc i) c d h = pair_at es i c d h

pub entry_at : (k : GiftKey) (es : Entries) (i : ℕ) (c : Counts) → position (key_eq k) (keys_of es) ≡ Some i → slice_get (map (λ (e : GiftKey × Counts). e.1) es) i ≡ Some c → slice_get es i ≡ Some (k, c)
entry_at k es i c p h =
    let first = position-Some (key_eq k) (keys_of es) i k p in
    pair_at es i c k h ∙ ap (λ (q : GiftKey). Some (q, c)) (sym (key_same k (get_or (keys_of es) i k) first.1))

at_place : (es : Entries) (i : ℕ) (e : GiftKey × Counts) → slice_get es i ≡ Some e → Contains es e
at_place [] i e at = cc at
at_place (x ∷ xs) zero e at = subst (Contains (x ∷ xs)) (cc at) (here x xs)
at_place (x ∷ xs) (suc i) e at = there x xs e (at_place xs i e at)

-- where no entry has the object, nothing is changed
none_changed : (change : Gift → Gift) (k : GiftKey) (es : Entries) → ((q : GiftKey) → Contains (keys_of es) q → key_eq k q ≡ false) → changed change (listed es) k.0 ≡ listed es
none_changed change k [] apart = refl
none_changed change k (e ∷ es) apart =
    ap (λ b. (if b then change (gift_in e) else gift_in e) ∷ changed change (listed es) k.0) (apart e.0 (here e.0 (keys_of es)))
    ∙ ap (λ gs. gift_in e ∷ gs) (none_changed change k es (λ q member. apart q (there e.0 (keys_of es) q member)))

-- what is written at the place of a key changes the gift of its object
pub written : (change : Gift → Gift) (k : GiftKey) (c w : Counts) → gift_in (k, w) ≡ change (gift_in (k, c)) → (es : Entries) (i : ℕ) → IsDistinct key_eq (keys_of es) → slice_get es i ≡ Some (k, c)
    → listed (set_value_at es i w) ≡ changed change (listed es) k.0
written change k c w made [] i once at = cc at
written change k c w made (e ∷ es) zero once at =
    let same : e ≡ (k, c) = cc at in
    let apart : (q : GiftKey) → Contains (keys_of es) q → key_eq k q ≡ false =
    λ q member. subst (λ (x : GiftKey × Counts). key_eq x.0 q ≡ false) same (member_of_all (λ y. key_eq e.0 y ≡ false) (keys_of es) q (IsDistinct-head key_eq e.0 (keys_of es) once) member) in
    let first : gift_in (e.0, w) ≡ (if key_eq k e.0 then change (gift_in e) else gift_in e) =
    ap (λ (x : GiftKey × Counts). gift_in (x.0, w)) same ∙ made ∙ ap (λ (x : GiftKey × Counts). change (gift_in x)) (sym same)
    ∙ sym (ap (λ b. if b then change (gift_in e) else gift_in e) (ap (λ (x : GiftKey × Counts). key_eq k x.0) same ∙ key_itself k)) in
    (λ j. first j ∷ sym (none_changed change k es apart) j)
written change k c w made (e ∷ es) (suc i) once at =
    let off : key_eq k e.0 ≡ false = false_of_not (key_eq k e.0) (λ is.
    let one = key_same k e.0 is in
    let apart = member_of_all (λ y. key_eq e.0 y ≡ false) (keys_of es) k (IsDistinct-head key_eq e.0 (keys_of es) once) (map_member (λ (x : GiftKey × Counts). x.0) es (k, c) (at_place es i (k, c) at)) in
    let itself = subst (λ q. key_eq e.0 q ≡ true) (sym one) (key_itself e.0) in
    cc (apart, itself)) in
    ap (λ gs. gift_in e ∷ gs) (written change k c w made es i (IsDistinct-tail key_eq e.0 (keys_of es) once) at)
    ∙ sym (ap (λ b. (if b then change (gift_in e) else gift_in e) ∷ changed change (listed es) k.0) off)

-- what is looked up is the gift of the object
pub looked : (k : GiftKey) (es : Entries) → is_some (lookup (key_eq k) es) ≡ has_place (listed es) k.0
looked k [] = refl
looked k (e ∷ es) = by (looked k es) (key_eq k e.0)
  where
    by : is_some (lookup (key_eq k) es) ≡ has_place (listed es) k.0 → (b : Bool) → is_some (cond b (Some e.1) (lookup (key_eq k) es)) ≡ is_some (cond b (Some (gift_in e)) (gift_of (listed es) k.0))
    by rest true = refl
    by rest false = rest

pub has_looked : (k : GiftKey) (es : Entries) (b : Bool) → b ≡ is_some (lookup (key_eq k) es) → b ≡ has_place (listed es) k.0
has_looked k es b is = is ∙ looked k es

-- the givers of an object are those at its place
pub givers_at : (k : GiftKey) (c : Counts) (es : Entries) (i : ℕ) → IsDistinct key_eq (keys_of es) → slice_get es i ≡ Some (k, c) → givers_of (listed es) k.0 ≡ c.givers
givers_at k c [] i once at = cc at
givers_at k c (e ∷ es) zero once at =
    let same : e ≡ (k, c) = cc at in
    ap (λ b. option_map_or (λ (g : Gift). g.givers) (cond b (Some (gift_in e)) (gift_of (listed es) k.0)) 0) (ap (λ (x : GiftKey × Counts). key_eq k x.0) same ∙ key_itself k)
    ∙ ap (λ (x : GiftKey × Counts). x.1.givers) same
givers_at k c (e ∷ es) (suc i) once at =
    let off : key_eq k e.0 ≡ false = false_of_not (key_eq k e.0) (λ is.
    let one = key_same k e.0 is in
    let apart = member_of_all (λ y. key_eq e.0 y ≡ false) (keys_of es) k (IsDistinct-head key_eq e.0 (keys_of es) once) (map_member (λ (x : GiftKey × Counts). x.0) es (k, c) (at_place es i (k, c) at)) in
    let itself = subst (λ q. key_eq e.0 q ≡ true) (sym one) (key_itself e.0) in
    cc (apart, itself)) in
    ap (λ b. option_map_or (λ (g : Gift). g.givers) (cond b (Some (gift_in e)) (gift_of (listed es) k.0)) 0) off
    ∙ givers_at k c es i (IsDistinct-tail key_eq e.0 (keys_of es) once) at

-- no givers where there is no place
pub no_givers : (gs : Gifts) (o : Object) → has_place gs o ≡ false → givers_of gs o ≡ 0
no_givers gs o none = by (gift_of gs o) none
  where
    by : (r : Option Gift) → is_some r ≡ false → option_map_or (λ (g : Gift). g.givers) r 0 ≡ 0
    by None h = refl
    by (Some g) h = cc h

-- a new key goes to the end
pub added : (k : GiftKey) (c : Counts) (es : Entries) → has_place (listed es) k.0 ≡ false → listed (insert_entry key_eq es k c) ≡ listed es ++ gift_in (k, c) ∷ []
added k c [] none = refl
added k c (e ∷ es) none = by (λ rest. added k c es rest) (key_eq k e.0) none
  where
    by : (has_place (listed es) k.0 ≡ false → listed (insert_entry key_eq es k c) ≡ listed es ++ gift_in (k, c) ∷ []) → (b : Bool) → is_some (cond b (Some (gift_in e)) (gift_of (listed es) k.0)) ≡ false
        → listed (if b then (e.0, c) ∷ es else e ∷ insert_entry key_eq es k c) ≡ gift_in e ∷ (listed es ++ gift_in (k, c) ∷ [])
    by rest true none = cc none
    by rest false none = ap (λ gs. gift_in e ∷ gs) (rest none)

-- with a place, by whether there was one
pub place_there : (gs : Gifts) (o : Object) → has_place gs o ≡ true → gs ≡ with_place gs o
place_there gs o is = sym (ap (λ b. if b then gs else gs ++ empty_gift o ∷ []) is)

pub place_new : (gs : Gifts) (o : Object) → has_place gs o ≡ false → gs ++ empty_gift o ∷ [] ≡ with_place gs o
place_new gs o is = sym (ap (λ b. if b then gs else gs ++ empty_gift o ∷ []) is)

-- what is read at a place
pub read_at : (es : Entries) (i : ℕ) (e : GiftKey × Counts) → slice_get es i ≡ Some e → slice_get (listed es) i ≡ Some (gift_in e)
read_at [] i e at = cc at
read_at (x ∷ xs) zero e at = let same : x ≡ e = cc at in ap (λ (y : GiftKey × Counts). Some (gift_in y)) same
read_at (x ∷ xs) (suc i) e at = read_at xs i e at

-- what is written at a place
pub some_key : GiftKey
some_key = key_of (object.Up [])

pub set_at : (es : Entries) (i : ℕ) (c w : Counts) → slice_get (map (λ (e : GiftKey × Counts). e.1) es) i ≡ Some c → listed (set_value_at es i w) ≡ slice_set (listed es) i (gift_in (get_or (keys_of es) i some_key, w))
set_at [] i c w at = cc at
set_at (e ∷ es) zero c w at = refl
set_at (e ∷ es) (suc i) c w at = ap (λ gs. gift_in e ∷ gs) (set_at es i c w at)

pub loses_link_at : (es : Entries) (i : ℕ) (c : Counts) (loses_link : Bool) → slice_get (map (λ (e : GiftKey × Counts). e.1) es) i ≡ Some c
    → listed (set_value_at es i (record c { loses_link = loses_link })) ≡ with_lost_link (listed es) i loses_link
loses_link_at es i c loses_link at =
    let gs = listed es in
    set_at es i c (record c { loses_link = loses_link }) at
    ∙ sym (ap (λ r. option_map_or (λ (g : Gift). slice_set gs i (record g { loses_link = loses_link })) r gs) (read_at es i (get_or (keys_of es) i some_key, c) (pair_at es i c some_key at)))

pub gift_told : (es : Entries) (i : ℕ) (c : Counts) → slice_get (map (λ (e : GiftKey × Counts). e.1) es) i ≡ Some c → slice_get (listed es) i ≡ Some (gift_in (get_or (keys_of es) i some_key, c))
gift_told es i c at = read_at es i (get_or (keys_of es) i some_key, c) (pair_at es i c some_key at)

-- a place or a giver tells that there is an entry
pub not_lacking : (k : GiftKey) (es : Entries) (gs : Gifts) → listed es ≡ gs → false ≡ is_some (lookup (key_eq k) es) → has_place gs k.0 ≡ true → ⊥
not_lacking k es gs view none had = let off = has_looked k es false none ∙ ap (λ xs. has_place xs k.0) view in cc (off, had)

pub not_given : (k : GiftKey) (es : Entries) (gs : Gifts) → listed es ≡ gs → false ≡ is_some (lookup (key_eq k) es) → 0 < givers_of gs k.0 → ⊥
not_given k es gs view none some =
    let off = has_looked k es false none ∙ ap (λ xs. has_place xs k.0) view in
    let zeros = no_givers gs k.0 (sym off) in
    omega (arith, zeros, some)
