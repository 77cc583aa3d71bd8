-- Bytes have one reading, or one first fault, and not both.
use Rattle.std.proofs.Common.{ℕ, suc, ◌≡◌, ◌+◌, ◌≤◌, Bool, true, false, cond, List, length, Option, Some, None, nat_eq, arith, ap, ◌∙◌, sym, subst, Result, Ok, Err, IfOk}
use Rattle.std.specs.Int.{w8, w16, w32, w64, from_be_bytes, cast_signed}
use Rattle.blob_codec.specs.declared.blob.Blob.{Blob}
use Rattle.blob_codec.specs.declared.blob.Blob.TheVariants.{Unspec, Array, Table, Str, I64, I32, I16, I8}
use Rattle.blob_codec.specs.declared.blob.Attr.{Attr}
use Rattle.blob_codec.specs.declared.blob_error.BlobError.{BlobError}
use Rattle.blob_codec.specs.Attribute.{IsWhole, without_last, padded, type_in, length_in, value_place, value_in, behind}
use Rattle.blob_codec.specs.Blob.{IsLeaf, IsNested, nothing, string, int64, int32, int16, int8, array, table, Spells, SpellsValue, none, attribute, leaf, nested}
use Rattle.blob_codec.specs.Fault.{IsFirstFault, front, deep, inside, later, first_held, tests_of, is_nested}
use Rattle.blob_codec.proofs.TestLemmas.{whole_tests, leaf_tests, nested_tests}

-- the value of a leaf, and of attributes, by the type
leaf_of : ℕ → List ℕ → Blob
leaf_of t b = cond (nat_eq t 0) Unspec (cond (nat_eq t 3) (Str (without_last b)) (cond (nat_eq t 4) (I64 (cast_signed w64 (from_be_bytes w64 b)))
    (cond (nat_eq t 5) (I32 (cast_signed w32 (from_be_bytes w32 b))) (cond (nat_eq t 6) (I16 (cast_signed w16 (from_be_bytes w16 b))) (I8 (cast_signed w8 (from_be_bytes w8 b)))))))

leaf_is : (t : ℕ) (b : List ℕ) (v : Blob) → IsLeaf t b v → v ≡ leaf_of t b
unfolding leaf_of
leaf_is t b v (nothing e s q) = q ∙ sym (ap (λ n. leaf_of n b) e)
leaf_is t b v (string e s q) = q ∙ sym (ap (λ n. leaf_of n b) e)
leaf_is t b v (int64 e s q) = q ∙ sym (ap (λ n. leaf_of n b) e)
leaf_is t b v (int32 e s q) = q ∙ sym (ap (λ n. leaf_of n b) e)
leaf_is t b v (int16 e s q) = q ∙ sym (ap (λ n. leaf_of n b) e)
leaf_is t b v (int8 e s q) = q ∙ sym (ap (λ n. leaf_of n b) e)

nested_of : ℕ → List Attr → Blob
nested_of t xs = cond (nat_eq t 1) (Array xs) (Table xs)

nested_is : (t : ℕ) (xs : List Attr) (v : Blob) → IsNested t xs v → v ≡ nested_of t xs
unfolding nested_of
nested_is t xs v (array e q) = q ∙ sym (ap (λ n. nested_of n xs) e)
nested_is t xs v (table e q) = q ∙ sym (ap (λ n. nested_of n xs) e)

leaf_type : (t : ℕ) (b : List ℕ) (v : Blob) → IsLeaf t b v → is_nested t ≡ false
leaf_type t b v (nothing e s q) = ap is_nested e
leaf_type t b v (string e s q) = ap is_nested e
leaf_type t b v (int64 e s q) = ap is_nested e
leaf_type t b v (int32 e s q) = ap is_nested e
leaf_type t b v (int16 e s q) = ap is_nested e
leaf_type t b v (int8 e s q) = ap is_nested e

nested_type : (t : ℕ) (xs : List Attr) (v : Blob) → IsNested t xs v → is_nested t ≡ true
nested_type t xs v (array e q) = ap is_nested e
nested_type t xs v (table e q) = ap is_nested e

clash : (b : Bool) → b ≡ false → b ≡ true → ⊥
clash b f t = absurd (let n : false ≡ true = sym f ∙ t in cc)

apart : (o : Option BlobError) (e : BlobError) → o ≡ None → o ≡ Some e → ⊥
apart o e n s = absurd (let q : None ≡ Some e = sym n ∙ s in cc)

level_clash : (levels fewer : ℕ) → levels ≡ 0 → levels ≡ suc fewer → ⊥
level_clash levels fewer z s = absurd (omega arith)

same_level : (levels fewer other : ℕ) → levels ≡ suc fewer → levels ≡ suc other → fewer ≡ other
same_level levels fewer other f o = omega arith

no_word : (bytes : List ℕ) → IsWhole bytes → length bytes ≡ 0 → ⊥
no_word bytes w n = let k : 4 ≤ length bytes = w.word in absurd (omega arith)

mutual
  pub one_list : (levels : ℕ) (bytes : List ℕ) (xs ys : List Attr) → Spells levels bytes xs → Spells levels bytes ys → ys ≡ xs
  one_list levels bytes xs ys (none _ _ _ n e) (none _ _ _ m f) = f ∙ sym e
  one_list levels bytes xs ys (none _ _ _ n e) (attribute _ _ v os _ w s r f) = absurd (no_word bytes w n)
  one_list levels bytes xs ys (attribute _ _ v os _ w s r e) (none _ _ _ m f) = absurd (no_word bytes w m)
  one_list levels bytes xs ys (attribute _ _ v os _ w s r e) (attribute _ _ u ps _ x t q f) =
      let values : u ≡ v = one_value levels (type_in bytes) (value_in bytes) v u s t in
      let rests : ps ≡ os = one_list levels (behind bytes) os ps r q in
      cc

  pub one_value : (levels type : ℕ) (bytes : List ℕ) (v u : Blob) → SpellsValue levels type bytes v → SpellsValue levels type bytes u → u ≡ v
  one_value levels type bytes v u (leaf _ _ _ _ l) (leaf _ _ _ _ k) = leaf_is type bytes u k ∙ sym (leaf_is type bytes v l)
  one_value levels type bytes v u (leaf _ _ _ _ l) (nested _ f _ _ is _ e s n) = absurd (clash (is_nested type) (leaf_type type bytes v l) (nested_type type is u n))
  one_value levels type bytes v u (nested _ f _ _ is _ e s n) (leaf _ _ _ _ k) = absurd (clash (is_nested type) (leaf_type type bytes u k) (nested_type type is v n))
  one_value levels type bytes v u (nested _ f _ _ is _ e s n) (nested _ g _ _ js _ d t m) =
      let t' : Spells f bytes js = subst (λ (k : ℕ). Spells k bytes js) (same_level levels g f d e) t in
      let inner : js ≡ is = one_list f bytes is js s t' in
      nested_is type js u m ∙ (ap (nested_of type) inner ∙ sym (nested_is type is v n))

spelled_tests : (levels place : ℕ) (bytes : List ℕ) (v : Blob) → IsWhole bytes → SpellsValue levels (type_in bytes) (value_in bytes) v → first_held (tests_of place bytes) ≡ None
spelled_tests levels place bytes v w (leaf _ _ _ _ l) = whole_tests place bytes w ∙ leaf_tests place (type_in bytes) (value_in bytes) v l
spelled_tests levels place bytes v w (nested _ f _ _ is _ e s n) = whole_tests place bytes w ∙ nested_tests place (type_in bytes) (value_in bytes) (nested_type (type_in bytes) is v n)

lists_tests : (place : ℕ) (bytes : List ℕ) → IsWhole bytes → is_nested (type_in bytes) ≡ true → first_held (tests_of place bytes) ≡ None
lists_tests place bytes w n = whole_tests place bytes w ∙ nested_tests place (type_in bytes) (value_in bytes) n

-- a value that is spelled holds attributes that are
inner_spelled : (levels type : ℕ) (bytes : List ℕ) (v : Blob) → is_nested type ≡ true → SpellsValue levels type bytes v
    → (P : Type 0) → ((fewer : ℕ) (inner : List Attr) → levels ≡ suc fewer → Spells fewer bytes inner → P) → P
inner_spelled levels type bytes v h (leaf _ _ _ _ l) P use' = absurd (clash (is_nested type) (leaf_type type bytes v l) h)
inner_spelled levels type bytes v h (nested _ f _ _ is _ e s n) P use' = use' f is e s

pub not_both : (levels place : ℕ) (bytes : List ℕ) (error : BlobError) (xs : List Attr) → IsFirstFault levels place bytes error → Spells levels bytes xs → ⊥
not_both levels place bytes error xs (front _ _ _ _ p h) (none _ _ _ n e) = absurd (omega arith)
not_both levels place bytes error xs (deep _ _ _ _ w n z h) (none _ _ _ m e) = no_word bytes w m
not_both levels place bytes error xs (inside _ f _ _ _ w n z h) (none _ _ _ m e) = no_word bytes w m
not_both levels place bytes error xs (later _ _ _ _ v w s h) (none _ _ _ m e) = no_word bytes w m
not_both levels place bytes error xs (front _ _ _ _ p h) (attribute _ _ u os _ x t r e) = apart (first_held (tests_of place bytes)) error (spelled_tests levels place bytes u x t) h
not_both levels place bytes error xs (deep _ _ _ _ w n z h) (attribute _ _ u os _ x t r e) =
    inner_spelled levels (type_in bytes) (value_in bytes) u n t ⊥ (λ f is d s. level_clash levels f z d)
not_both levels place bytes error xs (inside _ f _ _ _ w n z h) (attribute _ _ u os _ x t r e) =
    inner_spelled levels (type_in bytes) (value_in bytes) u n t ⊥
    (λ g is d s. not_both f (place + value_place bytes) (value_in bytes) error is h (subst (λ (k : ℕ). Spells k (value_in bytes) is) (same_level levels g f d z) s))
not_both levels place bytes error xs (later _ _ _ _ v w s h) (attribute _ _ u os _ x t r e) =
    not_both levels (place + padded (length_in bytes)) (behind bytes) error os h r

pub one_first : (levels place : ℕ) (bytes : List ℕ) (e d : BlobError) → IsFirstFault levels place bytes e → IsFirstFault levels place bytes d → d ≡ e
one_first levels place bytes e d (front _ _ _ _ p h) (front _ _ _ _ q g) = let s : Some d ≡ Some e = sym g ∙ h in cc
one_first levels place bytes e d (front _ _ _ _ p h) (deep _ _ _ _ w n z g) = absurd (apart (first_held (tests_of place bytes)) e (lists_tests place bytes w n) h)
one_first levels place bytes e d (front _ _ _ _ p h) (inside _ f _ _ _ w n z g) = absurd (apart (first_held (tests_of place bytes)) e (lists_tests place bytes w n) h)
one_first levels place bytes e d (front _ _ _ _ p h) (later _ _ _ _ v w s g) = absurd (apart (first_held (tests_of place bytes)) e (spelled_tests levels place bytes v w s) h)
one_first levels place bytes e d (deep _ _ _ _ w n z g) (front _ _ _ _ p h) = absurd (apart (first_held (tests_of place bytes)) d (lists_tests place bytes w n) h)
one_first levels place bytes e d (deep _ _ _ _ w n z g) (deep _ _ _ _ x m y h) = h ∙ sym g
one_first levels place bytes e d (deep _ _ _ _ w n z g) (inside _ f _ _ _ x m y h) = absurd (level_clash levels f z y)
one_first levels place bytes e d (deep _ _ _ _ w n z g) (later _ _ _ _ v x s h) =
    absurd (inner_spelled levels (type_in bytes) (value_in bytes) v n s ⊥ (λ f is y t. level_clash levels f z y))
one_first levels place bytes e d (inside _ f _ _ _ w n z g) (front _ _ _ _ p h) = absurd (apart (first_held (tests_of place bytes)) d (lists_tests place bytes w n) h)
one_first levels place bytes e d (inside _ f _ _ _ w n z g) (deep _ _ _ _ x m y h) = absurd (level_clash levels f y z)
one_first levels place bytes e d (inside _ f _ _ _ w n z g) (inside _ k _ _ _ x m y h) =
    one_first f (place + value_place bytes) (value_in bytes) e d g (subst (λ (i : ℕ). IsFirstFault i (place + value_place bytes) (value_in bytes) d) (same_level levels k f y z) h)
one_first levels place bytes e d (inside _ f _ _ _ w n z g) (later _ _ _ _ v x s h) =
    absurd (inner_spelled levels (type_in bytes) (value_in bytes) v n s ⊥
    (λ k is y t. not_both f (place + value_place bytes) (value_in bytes) e is g (subst (λ (i : ℕ). Spells i (value_in bytes) is) (same_level levels k f y z) t)))
one_first levels place bytes e d (later _ _ _ _ v w s g) (front _ _ _ _ p h) = absurd (apart (first_held (tests_of place bytes)) d (spelled_tests levels place bytes v w s) h)
one_first levels place bytes e d (later _ _ _ _ v w s g) (deep _ _ _ _ x m y h) =
    absurd (inner_spelled levels (type_in bytes) (value_in bytes) v m s ⊥ (λ f is q t. level_clash levels f y q))
one_first levels place bytes e d (later _ _ _ _ v w s g) (inside _ f _ _ _ x m y h) =
    absurd (inner_spelled levels (type_in bytes) (value_in bytes) v m s ⊥
    (λ k is z t. not_both f (place + value_place bytes) (value_in bytes) d is h (subst (λ (i : ℕ). Spells i (value_in bytes) is) (same_level levels k f z y) t)))
one_first levels place bytes e d (later _ _ _ _ v w s g) (later _ _ _ _ u x t h) =
    one_first levels (place + padded (length_in bytes)) (behind bytes) e d g h

pub only_found : (levels : ℕ) (bytes : List ℕ) (r : Result (List Attr) BlobError) → IfOk r (λ attrs. Spells levels bytes attrs)
    → IfOk r (λ attrs. (others : List Attr) → Spells levels bytes others → others ≡ attrs)
only_found levels bytes (Ok attrs) s = λ others t. one_list levels bytes attrs others s t
only_found levels bytes (Err error) s = tt
