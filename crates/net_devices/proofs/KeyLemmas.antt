-- Names and pairs as the keys of sets and maps.
use Rattle.std.proofs.Common.{ℕ, suc, ◌≡◌, ◌+◌, ◌-◌, ◌<◌, ◌≤◌, Bool, true, false, cond, List, [], ◌∷◌, ◌++◌, length, take, drop, drop-cons, get_or, arith, refl, sym, ap, ◌∙◌, add-one}
use Rattle.std.proofs.Math.Seq.{take-suc}
use Rattle.std.specs.Prelude.{◌||◌, ◌&&◌, ◌==◌, bytes_eq}
use Rattle.std.specs.List.{list_any}
use Rattle.std.specs.Ordering.{nat_cmp}
use Rattle.std.specs.Cmp.{both_tied, unsigned_ties}
use Rattle.std.specs.Cmp.Lexicographic.{slice_cmp, texts_ties}
use Rattle.std.specs.BTreeMap.{is_at}
use Rattle.std.specs.BTreeSet.{BTreeSet, contains}
use Rattle.std.proofs.lemmas.List.Folds.{list_any-append}
use Rattle.net_devices.specs.EachOnce.{has}
use Rattle.net_devices.specs.VlanTable.{vlan_cmp, port_cmp}

pub name_key : (name other : List ℕ) → is_at (slice_cmp nat_cmp name) other ≡ bytes_eq name other
name_key name other = sym (texts_ties name other)

pub vlan_key : (vlan other : List ℕ × ℕ) → is_at (vlan_cmp vlan) other ≡ (bytes_eq vlan.0 other.0 && (vlan.1 == other.1))
vlan_key vlan other = sym (both_tied _ _ _ _ (texts_ties vlan.0 other.0) (unsigned_ties vlan.1 other.1))

pub port_key : (port other : List ℕ × List ℕ) → is_at (port_cmp port) other ≡ (bytes_eq port.0 other.0 && bytes_eq port.1 other.1)
port_key port other = sym (both_tied _ _ _ _ (texts_ties port.0 other.0) (texts_ties port.1 other.1))

-- a key that is there now, or was there
pub there_or : (is was : Bool) → cond is true was ≡ (was || is)
there_or true true = refl
there_or true false = refl
there_or false true = refl
there_or false false = refl

pub or_none : (b : Bool) → (b || false) ≡ b
or_none true = refl
or_none false = refl

pub any_push : {X : Type 0} (p : X → Bool) (xs : List X) (x : X) → list_any p (xs ++ x ∷ []) ≡ (list_any p xs || p x)
any_push p xs x = list_any-append p xs (x ∷ []) ∙ ap (λ (z : Bool). list_any p xs || z) (or_none (p x))

-- a set with the names of a list has those of the list with one more, once that is put in
pub knows_one_more : (old new : BTreeSet (List ℕ)) (names : List (List ℕ)) (name : List ℕ) → ((q : List ℕ) → contains (slice_cmp nat_cmp) old q ≡ has names q)
    → ((q : List ℕ) → contains (slice_cmp nat_cmp) new q ≡ cond (is_at (slice_cmp nat_cmp name) q) true (contains (slice_cmp nat_cmp) old q)) → (q : List ℕ) → contains (slice_cmp nat_cmp) new q ≡ has (names ++ name ∷ []) q
knows_one_more old new names name known put q =
    put q
    ∙ there_or (is_at (slice_cmp nat_cmp name) q) (contains (slice_cmp nat_cmp) old q)
    ∙ ap (λ (z : Bool). z || is_at (slice_cmp nat_cmp name) q) (known q)
    ∙ ap (λ (z : Bool). has names q || z) (name_key name q)
    ∙ sym (any_push (λ (other : List ℕ). bytes_eq other q) names name)

-- the items so far, with one more
pub take_more : {X : Type 0} (xs : List X) (i : ℕ) (x : X) → i < length xs → x ≡ get_or xs i x → take (i + 1) xs ≡ take i xs ++ x ∷ []
take_more xs i x h e = ap (λ (n : ℕ). take n xs) (add-one i) ∙ (take-suc xs i x h ∙ ap (λ z. take i xs ++ z ∷ []) (sym e))

-- the items from here on, with the one before them
pub drop_before : {X : Type 0} (xs : List X) (p : ℕ) (x : X) → 0 < p → p ≤ length xs → x ≡ get_or xs (p - 1) x → drop (p - 1) xs ≡ x ∷ drop p xs
drop_before xs p x some bound e =
    let next : suc (p - 1) ≡ p = omega arith in
    drop-cons xs (p - 1) x (omega arith) ∙ (ap (λ z. z ∷ drop (suc (p - 1)) xs) (sym e) ∙ ap (λ (n : ℕ). x ∷ drop n xs) next)
