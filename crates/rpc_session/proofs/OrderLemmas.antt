-- Texts and values put in order.
use Rattle.std.proofs.Common.{◌≡◌, ℕ, ◌⊎◌, inl, inr, List, [], ◌∷◌, ◌++◌, map, Contains, Bool, true, false, cond, Option, Some, None, refl, sym, ap, subst, ◌∙◌}
use Rattle.std.specs.Prelude.{is_some}
use Rattle.std.specs.List.{list_any}
use Rattle.std.specs.Ordering.{match_ordering, eq_by_cmp}
use Rattle.std.specs.declared.cmp.Ordering.{Ordering}
use Rattle.std.specs.declared.cmp.Ordering.TheVariants.{Less, Equal, Greater}
use Rattle.std.specs.Cmp.{eq_by_cmp_equiv}
use Rattle.std.specs.Cmp.Lexicographic.{nat_list_cmp_total}
use Rattle.std.specs.List.Sorted.{IsStrictlySortedBy}
use Rattle.std.specs.Map.{keys_of, lookup}
use Rattle.std.specs.BTreeMap.{BTreeMap, IsOrdered, insert_entry, is_at, get}
use Rattle.std.specs.BTreeSet.{insert_key}
use Rattle.std.proofs.lemmas.Map.{lookup-none}
use Rattle.std.proofs.lemmas.Map.Entries.{none_below_head}
use Rattle.std.proofs.lemmas.Map.Keys.{sorted_tail}
use Rattle.std.proofs.lemmas.Map.Lookups.{exact_bytes}
use Rattle.std.proofs.lemmas.Map.Views.{tells_apart, Contains-from_any, list_any-from_Contains}
use Rattle.plane_words.specs.InOrder.{placed, put_in, ordered}
use Rattle.plane_words.proofs.MemberLemmas.{first_member, later_member, first_or_later, no_member}
use Rattle.plane_words.proofs.OrderLemmas.{one_list}
use Rattle.plane_words.proofs.OrderedLemmas.{ordered_lists}
use Rattle.blob_codec.specs.declared.blob.Blob.{Blob}
use Rattle.blob_codec.specs.declared.blob.Attr.{Attr}
use Rattle.rpc_session.specs.Values.{byte_order, by_name, in_order}
use Rattle.rpc_session.specs.ByName.{named_values, IsByName}

-- texts put in one after the other
abbrev pub puts : List (List ℕ) → List (List ℕ) → List (List ℕ)
puts list [] = list
puts list (text ∷ texts) = puts (put_in byte_order text list) texts

-- the texts in front of others, the last one first
abbrev back : List (List ℕ) → List (List ℕ) → List (List ℕ)
back [] others = others
back (text ∷ texts) others = back texts (text ∷ others)

puts_back : (texts others : List (List ℕ)) → puts (ordered byte_order others) texts ≡ ordered byte_order (back texts others)
puts_back [] others = refl
puts_back (text ∷ texts) others = puts_back texts (text ∷ others)

of_back : (texts others : List (List ℕ)) (k : List ℕ) → Contains (back texts others) k → Contains texts k ⊎ Contains others k
of_back [] others k h = inr h
of_back (text ∷ texts) others k h = elim (of_back texts (text ∷ others) k h) as (λ _. Contains (text ∷ texts) k ⊎ Contains others k) [
  | inl later ↦ inl (later_member text texts k later)
  | inr behind ↦ elim (first_or_later text others k behind) as (λ _. Contains (text ∷ texts) k ⊎ Contains others k) [
    | inl same ↦ inl (subst (Contains (text ∷ texts)) same (first_member text texts))
    | inr other ↦ inr other
  ]
]

others_back : (texts others : List (List ℕ)) (k : List ℕ) → Contains others k → Contains (back texts others) k
others_back [] others k h = h
others_back (text ∷ texts) others k h = others_back texts (text ∷ others) k (later_member text others k h)

to_back : (texts others : List (List ℕ)) (k : List ℕ) → Contains texts k → Contains (back texts others) k
to_back [] others k h = absurd (no_member k h)
to_back (text ∷ texts) others k h = elim (first_or_later text texts k h) as (λ _. Contains (back (text ∷ texts) others) k) [
  | inl same ↦ others_back texts (text ∷ others) k (subst (Contains (text ∷ others)) same (first_member text others))
  | inr later ↦ to_back texts (text ∷ others) k later
]

-- the same texts have the same list in order
same_texts : (xs ys : List (List ℕ)) → ((k : List ℕ) → Contains xs k → Contains ys k) → ((k : List ℕ) → Contains ys k → Contains xs k) → ordered byte_order xs ≡ ordered byte_order ys
same_texts xs ys to from =
    let test : List ℕ → Bool = λ k. list_any (eq_by_cmp byte_order k) ys in
    let found : (k : List ℕ) → Contains ys k → test k ≡ true = λ k h. list_any-from_Contains (eq_by_cmp_equiv nat_list_cmp_total) k ys h in
    let member : (k : List ℕ) → test k ≡ true → Contains ys k = λ k h. Contains-from_any (tells_apart exact_bytes) k ys h in
    one_list nat_list_cmp_total test (ordered byte_order xs) (ordered byte_order ys) exact_bytes
    (ordered_lists nat_list_cmp_total exact_bytes test xs (λ k h. found k (to k h)) (λ k h. from k (member k h)))
    (ordered_lists nat_list_cmp_total exact_bytes test ys found member)

pub puts_all : (texts : List (List ℕ)) → puts [] texts ≡ ordered byte_order texts
puts_all texts =
    puts_back texts []
    ∙ same_texts (back texts []) texts
    (λ k h. elim (of_back texts [] k h) as (λ _. Contains texts k) [ inl inside ↦ inside | inr none ↦ absurd (no_member k none) ])
    (to_back texts [])

key_placed : (r : Ordering) (x y : List ℕ) (ys put later : List (List ℕ)) → later ≡ put → match_ordering r (x ∷ y ∷ ys) (y ∷ ys) (y ∷ later) ≡ placed r x y ys put
key_placed Less x y ys put later same = refl
key_placed Equal x y ys put later same = refl
key_placed Greater x y ys put later same = ap (λ (z : List (List ℕ)). y ∷ z) same

-- a set puts a text in
pub key_put : (x : List ℕ) (xs : List (List ℕ)) → insert_key byte_order xs x ≡ put_in byte_order x xs
key_put x [] = refl
key_put x (y ∷ ys) = key_placed (byte_order x y) x y ys (put_in byte_order x ys) (insert_key byte_order ys x) (key_put x ys)

-- each value is read back
pub values_back : (attrs : List Attr) → map (λ (e : List ℕ × Blob). record { name = e.0; value = e.1 }) (named_values attrs) ≡ attrs
values_back [] = refl
values_back (a ∷ others) = ap (λ (z : List Attr). a ∷ z) (values_back others)

-- whether a name is that of an entry
abbrev at_name : List ℕ → List ℕ → Bool
at_name name = is_at (byte_order name)

absent_at : (r : Ordering) (a x : Attr) (xs later : List Attr) (inserted : List (List ℕ × Blob)) (found : Option Blob) → cond (is_at (λ (k : List ℕ). r) x.name) (Some x.value) found ≡ None → (found ≡ None → inserted ≡ named_values later)
    → match_ordering r ((a.name, a.value) ∷ named_values (x ∷ xs)) ((x.name, a.value) ∷ named_values xs) ((x.name, x.value) ∷ inserted) ≡ named_values (placed r a x xs later)
absent_at Less a x xs later inserted found none rest = refl
absent_at Equal a x xs later inserted found none rest = cc none
absent_at Greater a x xs later inserted found none rest = ap (λ (z : List (List ℕ × Blob)). (x.name, x.value) ∷ z) (rest none)

absent : (a : Attr) (xs : List Attr) → lookup (at_name a.name) (named_values xs) ≡ None → insert_entry byte_order (named_values xs) a.name a.value ≡ named_values (put_in by_name a xs)
absent a [] none = refl
absent a (x ∷ xs) none = absent_at (byte_order a.name x.name) a x xs (put_in by_name a xs) (insert_entry byte_order (named_values xs) a.name a.value) (lookup (at_name a.name) (named_values xs)) none (absent a xs)

present_at : (r : Ordering) (a x : Attr) (xs later : List Attr) (found : Option Blob) → is_some (cond (is_at (λ (k : List ℕ). r) x.name) (Some x.value) found) ≡ true → (r ≡ Less → found ≡ None) → (is_some found ≡ true → later ≡ xs)
    → placed r a x xs later ≡ x ∷ xs
present_at Less a x xs later found some below rest = let bad : false ≡ true = ap is_some (sym (below refl)) ∙ some in cc bad
present_at Equal a x xs later found some below rest = refl
present_at Greater a x xs later found some below rest = ap (λ (z : List Attr). x ∷ z) (rest some)

present : (a : Attr) (xs : List Attr) → IsStrictlySortedBy byte_order (keys_of (named_values xs)) → is_some (lookup (at_name a.name) (named_values xs)) ≡ true → put_in by_name a xs ≡ xs
present a [] sorted some = cc some
present a (x ∷ xs) sorted some =
    present_at (byte_order a.name x.name) a x xs (put_in by_name a xs) (lookup (at_name a.name) (named_values xs)) some
    (λ less. lookup-none (at_name a.name) (named_values xs) (none_below_head nat_list_cmp_total a.name (x.name, x.value) (named_values xs) sorted less).1)
    (present a xs (sorted_tail byte_order x.name (keys_of (named_values xs)) sorted))

-- a value goes to its place among the later ones, or stays out where one of its name is there
pub put_absent : (a : Attr) (later : List Attr) (old new : BTreeMap (List ℕ) Blob) (there : Bool) → IsByName later old → there ≡ is_some (get byte_order old a.name) → there ≡ false → new.entries
    ≡ insert_entry byte_order old.entries a.name a.value → IsOrdered byte_order new → IsByName (put_in by_name a later) new
put_absent a later old new there is found away made ordered = record {
  entries = made ∙ (ap (λ (z : List (List ℕ × Blob)). insert_entry byte_order z a.name a.value) is.entries
      ∙ absent a later (none_of (lookup (at_name a.name) (named_values later)) (ap (λ (z : List (List ℕ × Blob)). is_some (lookup (at_name a.name) z)) (sym is.entries) ∙ sym found ∙ away)));
  ordered = ordered;
}
  where
    none_of : (found : Option Blob) → is_some found ≡ false → found ≡ None
    none_of None h = refl
    none_of (Some x) h = cc h

pub put_present : (a : Attr) (later : List Attr) (old : BTreeMap (List ℕ) Blob) (there : Bool) → IsByName later old → there ≡ is_some (get byte_order old a.name) → there ≡ true → IsByName (put_in by_name a later) old
put_present a later old there is found here =
    let sorted : IsStrictlySortedBy byte_order (keys_of (named_values later)) = subst (λ (z : List (List ℕ × Blob)). IsStrictlySortedBy byte_order (keys_of z)) is.entries is.ordered in
    let stays : put_in by_name a later ≡ later = present a later sorted (ap (λ (z : List (List ℕ × Blob)). is_some (lookup (at_name a.name) z)) (sym is.entries) ∙ sym found ∙ here) in
    subst (λ (z : List Attr). IsByName z old) (sym stays) is

-- the values in front of a list in order, put into it
abbrev onto : List Attr → List Attr → List Attr
onto [] list = list
onto (a ∷ others) list = put_in by_name a (onto others list)

onto_none : (others : List Attr) → onto others [] ≡ in_order others
onto_none [] = refl
onto_none (a ∷ others) = ap (put_in by_name a) (onto_none others)

onto_last : (others : List Attr) (last : Attr) (list : List Attr) → onto (others ++ last ∷ []) list ≡ onto others (put_in by_name last list)
onto_last [] last list = refl
onto_last (a ∷ others) last list = ap (put_in by_name a) (onto_last others last list)

-- the values behind the rest are in the map
pub record NamedSoFar (all rest : List Attr) (map : BTreeMap (List ℕ) Blob) : Type 0 where
  pub behind : List Attr
  pub is : IsByName behind map
  pub same : onto rest behind ≡ in_order all

pub none_named : (all : List Attr) (map : BTreeMap (List ℕ) Blob) → map.entries ≡ [] → IsOrdered byte_order map → NamedSoFar all all map
none_named all map empty ordered = record { behind = []; is = record { entries = empty; ordered = ordered }; same = onto_none all }

pub one_named : (all rest fewer : List Attr) (last : Attr) (old new : BTreeMap (List ℕ) Blob) (so : NamedSoFar all rest old) → rest ≡ fewer ++ last ∷ [] → IsByName (put_in by_name last so.behind) new → NamedSoFar all fewer new
one_named all rest fewer last old new so split is = record {
  behind = put_in by_name last so.behind;
  is = is;
  same = sym (onto_last fewer last so.behind) ∙ ap (λ (z : List Attr). onto z so.behind) (sym split) ∙ so.same;
}
