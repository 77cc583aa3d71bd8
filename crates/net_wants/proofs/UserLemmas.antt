-- Counts of those that use a name, with one row more.
use Rattle.std.proofs.Common.{◌≡◌, ℕ, ◌+◌, ◌<◌, List, [], ◌∷◌, ◌++◌, length, map, take, get_or, Bool, true, false, cond, Some, None, Option, refl, sym, ap, ◌∙◌, arith, length-append}
use Rattle.std.specs.Prelude.{◌&&◌, ◌||◌, bytes_eq, filter}
use Rattle.std.specs.List.{list_any}
use Rattle.std.specs.Ordering.{nat_cmp}
use Rattle.std.specs.Cmp.Lexicographic.{slice_cmp}
use Rattle.std.specs.BTreeMap.{BTreeMap, get}
use Rattle.std.proofs.lemmas.List.{map-append}
use Rattle.std.proofs.lemmas.List.Elements.{filter-append}
use Rattle.net_rows.specs.declared.rows.NameRow.{NameRow}
use Rattle.net_rows.specs.declared.rows.InterfaceRow.{InterfaceRow}
use Rattle.net_rules.specs.Facts.{Facts}
use Rattle.net_rules.specs.Firsts.{firsts}
use Rattle.net_rules.specs.Rows.{is_name, names_of, interfaces_of}
use Rattle.net_rules.specs.Standing.{stands}
use Rattle.net_rules.specs.Available.{available}
use Rattle.net_rules.specs.Used.{uses, used, users}
use Rattle.net_view.specs.Places.{HasPlaces, is_place}
use Rattle.net_view.proofs.PortLemmas.{firsts_more, more_is}

one_counts : {X : Type 0} (p : X → Bool) (x : X) (b c : Bool) → p x ≡ c → length (filter p (cond b (x ∷ []) [])) ≡ cond (b && c) 1 0
one_counts p x true true h = ap (λ d. length (cond d (x ∷ []) [])) h
one_counts p x true false h = ap (λ d. length (cond d (x ∷ []) [])) h
one_counts p x false c h = refl

counted : {X : Type 0} (p : X → Bool) (xs ys : List X) → length (filter p (xs ++ ys)) ≡ length (filter p xs) + length (filter p ys)
counted p xs ys = ap length (filter-append p xs ys) ∙ length-append (filter p xs) (filter p ys)

pub count_firsts_more : {X : Type 0} (key : X → List ℕ) (p : X → Bool) (xs : List X) (places : BTreeMap (List ℕ) ℕ) (i : ℕ) (x : X) (b : Bool) → HasPlaces places (map key xs) → i < length xs → x ≡ get_or xs i x → b
    ≡ (is_place i (get (slice_cmp nat_cmp) places (key x)) && p x) → length (filter p (firsts key (take (i + 1) xs))) ≡ length (filter p (firsts key (take i xs))) + cond b 1 0
count_firsts_more {X} key p xs places i x b has within is test =
    let first : Bool = is_place i (get (slice_cmp nat_cmp) places (key x)) in
    ap (λ (z : List X). length (filter p z)) (firsts_more key xs places i x has within is)
    ∙ counted p (firsts key (take i xs)) (cond first (x ∷ []) [])
    ∙ ap (λ n. length (filter p (firsts key (take i xs))) + n) (one_counts p x first (p x) refl ∙ ap (λ c. cond c 1 0) (sym test))

pub count_names_more : (p : List ℕ → Bool) (rows : List NameRow) (i : ℕ) (row : NameRow) (b : Bool) → i < length rows → row ≡ get_or rows i row → b ≡ p row.name → length (filter p (map (λ (r : NameRow). r.name) (take (i + 1) rows)))
    ≡ length (filter p (map (λ (r : NameRow). r.name) (take i rows))) + cond b 1 0
count_names_more p rows i row b within is test =
    let name : NameRow → List ℕ = λ r. r.name in
    ap (λ (z : List NameRow). length (filter p (map name z))) (more_is rows i row within is)
    ∙ ap (λ (z : List (List ℕ)). length (filter p z)) (map-append name (take i rows) (row ∷ []))
    ∙ counted p (map name (take i rows)) (row.name ∷ [])
    ∙ ap (λ n. length (filter p (map name (take i rows))) + n) (one_counts p row.name true (p row.name) refl ∙ ap (λ c. cond c 1 0) (sym test))

-- a count that goes on by what is counted
pub counted_on : (count now before after : ℕ) (b : Bool) → count ≡ before → after ≡ before + cond b 1 0 → now ≡ count + cond b 1 0 → now ≡ after
counted_on count now before after b is more made = made ∙ ap (λ n. n + cond b 1 0) is ∙ sym more

pub counts_one : (count now : ℕ) (b : Bool) → b ≡ true → now ≡ count + 1 → now ≡ count + cond b 1 0
counts_one count now b holds made = made ∙ sym (ap (λ d. count + cond d 1 0) holds)

pub counts_none : (count now : ℕ) (b : Bool) → b ≡ false → now ≡ count → now ≡ count + cond b 1 0
counts_none count now b fails made =
    let same : count ≡ count + 0 = omega arith in
    made ∙ same ∙ sym (ap (λ d. count + cond d 1 0) fails)
