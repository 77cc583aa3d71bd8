-- The names of values in order, and the value of each name.
use Rattle.std.proofs.Common.{◌≡◌, ℕ, ◌⊎◌, inl, inr, List, [], ◌∷◌, Contains, Bool, true, false, Option, Some, None, if◌then◌else◌, refl, sym, ap, subst, ◌∙◌, arith}
use Rattle.std.specs.Prelude.{◌||◌, codes}
use Rattle.std.specs.Cmp.{tied_itself}
use Rattle.std.specs.Cmp.Lexicographic.{bytes_decides, nat_list_cmp_total}
use Rattle.std.specs.declared.cmp.Ordering.{Ordering}
use Rattle.std.specs.declared.cmp.Ordering.TheVariants.{Less, Equal, Greater}
use Rattle.std.proofs.lemmas.Map.Lookups.{exact_bytes}
use Rattle.plane_words.specs.InOrder.{ListsInOrder, placed, put_in, ordered}
use Rattle.plane_words.proofs.MemberLemmas.{first_member, later_member, first_or_later, no_member}
use Rattle.plane_words.proofs.OrderedLemmas.{ordered_lists}
use Rattle.blob_codec.specs.declared.blob.Blob.{Blob}
use Rattle.blob_codec.specs.declared.blob.Attr.{Attr}
use Rattle.rpc_session.specs.declared.method.Method.{Method}
use Rattle.rpc_session.specs.declared.method.Method.TheVariants.{Create}
use Rattle.rpc_session.specs.Arguments.{argument, argument_or}
use Rattle.rpc_session.specs.Grant.{same_text}
use Rattle.rpc_session.specs.Method.{method_of}
use Rattle.rpc_session.specs.Values.{byte_order, by_name, has_name, in_order, names_of}

names_placed : (r : Ordering) (a x : Attr) (xs put : List Attr) (later : List (List ℕ)) → names_of put ≡ later → names_of (placed r a x xs put) ≡ placed r a.name x.name (names_of xs) later
names_placed Less a x xs put later same = refl
names_placed Equal a x xs put later same = refl
names_placed Greater a x xs put later same = ap (λ (z : List (List ℕ)). x.name ∷ z) same

names_put : (a : Attr) (xs : List Attr) → names_of (put_in by_name a xs) ≡ put_in byte_order a.name (names_of xs)
names_put a [] = refl
names_put a (x ∷ xs) = names_placed (byte_order a.name x.name) a x xs (put_in by_name a xs) (put_in byte_order a.name (names_of xs)) (names_put a xs)

names_in_order : (attrs : List Attr) → names_of (in_order attrs) ≡ ordered byte_order (names_of attrs)
names_in_order [] = refl
names_in_order (a ∷ others) = names_put a (in_order others) ∙ ap (put_in byte_order a.name) (names_in_order others)

or_true : (b : Bool) → (b || true) ≡ true
or_true true = refl
or_true false = refl

has_named : (attrs : List Attr) (k : List ℕ) → Contains (names_of attrs) k → has_name attrs k ≡ true
has_named [] k h = absurd (no_member k h)
has_named (a ∷ others) k h = elim (first_or_later a.name (names_of others) k h) as (λ _. has_name (a ∷ others) k ≡ true) [
  | inl same ↦ ap (λ b. b || has_name others k) ((bytes_decides a.name k).1 same)
  | inr later ↦ ap (λ b. same_text a.name k || b) (has_named others k later) ∙ or_true (same_text a.name k)
]

either : (b c : Bool) → (b || c) ≡ true → (b ≡ true) ⊎ (c ≡ true)
either true c h = inl refl
either false c h = inr h

named_has : (attrs : List Attr) (k : List ℕ) → has_name attrs k ≡ true → Contains (names_of attrs) k
named_has [] k h = cc h
named_has (a ∷ others) k h = elim (either (same_text a.name k) (has_name others k) h) as (λ _. Contains (a.name ∷ names_of others) k) [
  | inl same ↦ subst (Contains (a.name ∷ names_of others)) ((bytes_decides a.name k).0 same) (first_member a.name (names_of others))
  | inr later ↦ later_member a.name (names_of others) k (named_has others k later)
]

pub names_stand : (attrs : List Attr) → ListsInOrder byte_order (has_name attrs) (names_of (in_order attrs))
names_stand attrs = subst (ListsInOrder byte_order (has_name attrs)) (sym (names_in_order attrs)) (ordered_lists nat_list_cmp_total exact_bytes (has_name attrs) (names_of attrs) (has_named attrs) (named_has attrs))

-- the value of a name, or the one told earlier
abbrev or_told : List ℕ → Attr → Option Blob → Option Blob
or_told name attr earlier = if same_text attr.name name then Some attr.value else earlier

same_name : (b c : Bool) (x y e : Option Blob) → c ≡ b → (if b then x else e) ≡ (if b then x else (if c then y else e))
same_name true c x y e same = refl
same_name false c x y e same = ap (λ d. if d then y else e) (sym same)

other_name : (b c : Bool) (x y e : Option Blob) → (b ≡ true → c ≡ true → ⊥) → (if c then y else (if b then x else e)) ≡ (if b then x else (if c then y else e))
other_name true true x y e apart = absurd (apart refl refl)
other_name true false x y e apart = refl
other_name false c x y e apart = refl

greater_apart : (a x : Attr) (name : List ℕ) → byte_order a.name x.name ≡ Greater → same_text x.name name ≡ true → same_text a.name name ≡ true → ⊥
greater_apart a x name greater one other =
    let same : a.name ≡ x.name = (bytes_decides a.name name).0 other ∙ sym ((bytes_decides x.name name).0 one) in
    let self : byte_order x.name x.name ≡ Greater = subst (λ (t : List ℕ). byte_order t x.name ≡ Greater) same greater in
    let tied : byte_order x.name x.name ≡ Equal = tied_itself nat_list_cmp_total x.name in
    let bad : Equal ≡ Greater = sym tied ∙ self in cc bad

-- a value that is put in is told as if it stood in front
placed_told : (r : Ordering) (name : List ℕ) (earlier : Option Blob) (a x : Attr) (xs put : List Attr) → byte_order a.name x.name ≡ r → ((e : Option Blob) → argument_or e name put ≡ argument_or (or_told name a e) name xs)
    → argument_or earlier name (placed r a x xs put) ≡ argument_or (or_told name x (or_told name a earlier)) name xs
placed_told Less name earlier a x xs put is later = refl
placed_told Equal name earlier a x xs put is later =
    ap (λ (e : Option Blob). argument_or e name xs) (same_name (same_text x.name name) (same_text a.name name) (Some x.value) (Some a.value) earlier (ap (λ (t : List ℕ). same_text t name) (exact_bytes a.name x.name is)))
placed_told Greater name earlier a x xs put is later =
    later (or_told name x earlier)
    ∙ ap (λ (e : Option Blob). argument_or e name xs) (other_name (same_text x.name name) (same_text a.name name) (Some x.value) (Some a.value) earlier (greater_apart a x name is))

put_told : (name : List ℕ) (earlier : Option Blob) (a : Attr) (xs : List Attr) → argument_or earlier name (put_in by_name a xs) ≡ argument_or (or_told name a earlier) name xs
put_told name earlier a [] = refl
put_told name earlier a (x ∷ xs) = placed_told (byte_order a.name x.name) name earlier a x xs (put_in by_name a xs) refl (λ e. put_told name e a xs)

told_in_order : (name : List ℕ) (earlier : Option Blob) (attrs : List Attr) → argument_or earlier name (in_order attrs) ≡ argument_or earlier name attrs
told_in_order name earlier [] = refl
told_in_order name earlier (a ∷ others) = put_told name earlier a (in_order others) ∙ told_in_order name (or_told name a earlier) others

pub lasts_stand : (attrs : List Attr) (name : List ℕ) → argument name (in_order attrs) ≡ argument name attrs
lasts_stand attrs name = told_in_order name None attrs

-- the method of that name alone makes a session
pub is_create : (name : List ℕ) (method : Option Method) → method ≡ method_of name → method ≡ Some Create → name ≡ codes "create"
is_create name method of is = by_test (same_text name (codes "create")) refl
  where
    by_test : (b : Bool) → same_text name (codes "create") ≡ b → name ≡ codes "create"
    by_test true h = (bytes_decides name (codes "create")).0 h
    by_test false h = absurd (grind (arith, h, of, is))
