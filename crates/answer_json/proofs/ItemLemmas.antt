-- Items of arrays, one after the other.
use Rattle.std.proofs.Common.{ℕ, suc, zero, ◌+◌, ◌<◌, ◌≤◌, ◌≡◌, List, [], ◌∷◌, ◌++◌, Option, Some, None, length, take, get_or, map, sym, subst, ap, ◌∙◌, refl, arith}
use Rattle.std.proofs.lemmas.List.{take_more, take_all}
use Rattle.serde_json.specs.Data.{Data, null, boolean, number, string, array, object, Items, no_items, item}
use Rattle.serde_json.specs.View.{view, items_of}
use Rattle.serde_json.specs.Find.{as_array}
use Rattle.serde_json.specs.declared.value.Value.{Value}
use Rattle.answer_json.specs.Members.{AreItems, IsArray}

one_more : {A : Type 0} (Reads : Data → A → Type 0) (ds : List Data) (list : List A) (d : Data) (a : A)
    → AreItems Reads (items_of ds) list → Reads d a
    → AreItems Reads (items_of (ds ++ d ∷ [])) (list ++ a ∷ [])
one_more Reads [] (b ∷ list) d a so reads = elim so [ ]
one_more Reads (e ∷ ds) [] d a so reads = elim so [ ]
one_more Reads [] [] d a AreItems.none reads = AreItems.more d a no_items [] reads AreItems.none
one_more Reads (e ∷ ds) (b ∷ list) d a (AreItems.more _ _ _ _ first others) reads =
    AreItems.more e b _ _ first (one_more Reads ds list d a others reads)

map_last : (vs : List Value) (v : Value) → map view (vs ++ v ∷ []) ≡ map view vs ++ view v ∷ []
map_last [] v = refl
map_last (w ∷ vs) v = ap (λ ds. view w ∷ ds) (map_last vs v)

-- so far, and one item more
pub items_more : {A : Type 0} (Reads : Data → A → Type 0) (vs : List Value) (i : ℕ) (v : Value)
    (list : List A) (a : A) → i < length vs → v ≡ get_or vs i v
    → AreItems Reads (items_of (map view (take i vs))) list → Reads (view v) a
    → AreItems Reads (items_of (map view (take (i + 1) vs))) (list ++ a ∷ [])
items_more Reads vs i v list a within is so reads =
    let all : take (i + 1) vs ≡ take i vs ++ v ∷ [] =
    take_more vs i v within ∙ ap (λ x. take i vs ++ x ∷ []) (sym is) in
    subst (λ (ds : List Data). AreItems Reads (items_of ds) (list ++ a ∷ []))
    (sym (ap (map view) all ∙ map_last (take i vs) v))
    (one_more Reads (map view (take i vs)) list (view v) a so reads)

each_reads : {A : Type 0} (Reads : Data → A → Type 0) (vs : List Value) (list : List A) (i : ℕ)
    (v : Value) → AreItems Reads (items_of (map view vs)) list → i < length vs → v ≡ get_or vs i v
    → ((a : A) → Reads (view v) a → ⊥) → ⊥
each_reads Reads [] list i v h within is none = absurd (omega (arith, within))
each_reads Reads (w ∷ vs) [] i v h within is none = elim h [ ]
each_reads Reads (w ∷ vs) (b ∷ list) zero v (AreItems.more _ _ _ _ first others) within is none =
    none b (subst (λ (x : Value). Reads (view x) b) (sym is) first)
each_reads Reads (w ∷ vs) (b ∷ list) (suc i) v (AreItems.more _ _ _ _ first others) within is none =
    each_reads Reads vs list i v others (omega arith) is none

is_array : (value : Data) (ds : Items) → as_array value ≡ Some ds → value ≡ array ds
is_array null ds e = absurd cc
is_array (boolean b) ds e = absurd cc
is_array (number n) ds e = absurd cc
is_array (string s) ds e = absurd cc
is_array (array es) ds e = cc
is_array (object ms) ds e = absurd cc

-- all items were read
pub array_found : {A : Type 0} (Reads : Data → A → Type 0) (value : Data) (vs : List Value) (n : ℕ)
    (list : List A) → as_array value ≡ Some (items_of (map view vs)) → length vs ≤ n
    → AreItems Reads (items_of (map view (take n vs))) list → IsArray Reads value list
array_found Reads value vs n list is end so = record {
  items = items_of (map view vs);
  array = is_array value (items_of (map view vs)) is;
  each = subst (λ (xs : List Value). AreItems Reads (items_of (map view xs)) list)
      (take_all n vs end) so;
}

-- an item that does not read is in the way of every reading
pub array_not : {A : Type 0} (Reads : Data → A → Type 0) (value : Data) (vs : List Value) (i : ℕ)
    (v : Value) → as_array value ≡ Some (items_of (map view vs)) → i < length vs
    → v ≡ get_or vs i v → ((a : A) → Reads (view v) a → ⊥) → (list : List A)
    → IsArray Reads value list → ⊥
array_not Reads value vs i v is within at none list h =
    let same : Some h.items ≡ Some (items_of (map view vs)) = sym (ap as_array h.array) ∙ is in
    let these : h.items ≡ items_of (map view vs) = cc in
    each_reads Reads vs list i v (subst (λ (xs : Items). AreItems Reads xs list) these h.each)
    within at none
