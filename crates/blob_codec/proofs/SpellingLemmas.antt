-- What is written spells what was to be written.
use Rattle.std.proofs.Common.{ℕ, zero, suc, ℤ, pos, negsuc, ◌≡◌, ◌+◌, ◌-◌, ◌*◌, ◌/◌, ◌%◌, ◌^◌, ◌<◌, ◌≤◌, Bool, true, false, not, cond, nat_eq, nat_lt, List, [], ◌∷◌, ◌++◌, length, take, drop, replicate, Option, Some, None, option_map}
use Rattle.std.proofs.Common.{arith, rules, refl, sym, ap, subst, ◌∙◌, append_assoc, append-nil, length-append, FitsSigned}
use Rattle.std.specs.Prelude.{position, unwrap_or}
use Rattle.std.specs.List.{position_or_len}
use Rattle.std.proofs.lemmas.Bool.Decides.{nat_tests}
use Rattle.std.specs.Int.{w8, w16, w32, w64, to_be_bytes, from_be_bytes, cast_unsigned, cast_signed}
use Rattle.std.proofs.lemmas.Int.{to_z-of_z}
use Rattle.std.proofs.lemmas.List.{length-replicate}
use Rattle.std.proofs.lemmas.Nat.{from_be_bytes-to_be_bytes_2, from_be_bytes-to_be_bytes_4, from_be_bytes-to_be_bytes_8}
use Rattle.std.proofs.Math.Seq.{take-append_seam, drop-append_seam}
use Rattle.lanes_scan.specs.ByteTest.{is_nul}
use Rattle.blob_codec.specs.declared.blob.Blob.{Blob, the_lemmas}
use Rattle.blob_codec.specs.declared.blob.Blob.TheVariants.{Unspec, Array, Table, Str, I64, I32, I16, I8}
use Rattle.blob_codec.specs.declared.blob.Attr.{Attr}
use Rattle.blob_codec.specs.Attribute.{IsWhole, padded, word_in, flag_in, type_in, length_in, name_length_in, named_in, name_in, value_place, value_in, behind, is_terminated, without_last}
use Rattle.blob_codec.specs.Blob.{Spells, SpellsValue, none, attribute, leaf, nested, nothing, string, int64, int32, int16, int8, array, table}
use Rattle.blob_codec.specs.Limits as limits
use Rattle.blob_codec.specs.Limits.{Fits, FitsValue, IsPlain, Holds, IsSized, HasNoNul}
use Rattle.blob_codec.specs.Written.{Body, body_of, padding, word_of, name_field, size_of, attribute_bytes, written}
use Rattle.blob_codec.proofs.FieldLemmas.{padded_least, padded_most}

-- a front of lists that follow one another
front_is : (n : ℕ) (xs ys : List ℕ) → n ≡ length xs → take n (xs ++ ys) ≡ xs
front_is n xs ys e = ap (λ k. take k (xs ++ ys)) e ∙ take-append_seam xs ys

back_is : (n : ℕ) (xs ys : List ℕ) → n ≡ length xs → drop n (xs ++ ys) ≡ ys
back_is n xs ys e = ap (λ k. drop k (xs ++ ys)) e ∙ drop-append_seam xs ys

-- a text that ends at its one zero byte
not_found : (b : Bool) (n : ℕ) → cond b (Some n) None ≡ None → b ≡ false
not_found true n h = absurd (let e : Some n ≡ None = h in cc)
not_found false n h = refl

no_place : (n m : ℕ) → nat_lt n m ≡ false → m ≤ n
no_place n m h = grind (arith, nat_tests)

less : (n m : ℕ) → n < m → nat_lt n m ≡ true
less n m h = grind (arith, nat_tests)

same : (n m : ℕ) → n ≡ m → nat_eq n m ≡ true
same n m h = grind (arith, nat_tests)

place_step : (b : Bool) (n m place : ℕ) → suc n ≤ cond (not b) (1 + m) 0 → (n ≤ m → place ≡ n) → cond (not b) (1 + place) 0 ≡ suc n
place_step true n m place h k = absurd (omega arith)
place_step false n m place h k = let e : place ≡ n = k (omega arith) in omega arith

nul_place : (xs : List ℕ) → length xs ≤ position_or_len is_nul xs → position_or_len is_nul (xs ++ 0 ∷ []) ≡ length xs
nul_place [] h = refl
nul_place (x ∷ xs) h = place_step (is_nul x) (length xs) (position_or_len is_nul xs) (position_or_len is_nul (xs ++ 0 ∷ [])) h (nul_place xs)

pub ends : (xs : List ℕ) → HasNoNul xs → is_terminated (xs ++ 0 ∷ []) ≡ true
unfolding is_terminated
ends xs h =
    let p : position_or_len is_nul (xs ++ 0 ∷ []) ≡ length xs = nul_place xs (no_place (position_or_len is_nul xs) (length xs) (not_found (nat_lt (position_or_len is_nul xs) (length xs)) (position_or_len is_nul xs) h)) in
    let l : length (xs ++ 0 ∷ []) ≡ length xs + 1 = length-append xs (0 ∷ []) in
    let t : nat_lt (position_or_len is_nul (xs ++ 0 ∷ [])) (length (xs ++ 0 ∷ [])) ≡ true = less _ _ (omega arith) in
    let at : position is_nul (xs ++ 0 ∷ []) ≡ Some (length xs) = ap (λ b. cond b (Some (position_or_len is_nul (xs ++ 0 ∷ []))) None) t ∙ ap Some p in
    ap (λ o. unwrap_or (option_map (λ place. nat_eq (place + 1) (length (xs ++ 0 ∷ []))) o) false) at ∙ same (length xs + 1) (length (xs ++ 0 ∷ [])) (sym l)

pub without_nul : (xs : List ℕ) → without_last (xs ++ 0 ∷ []) ≡ xs
unfolding without_last
without_nul xs = front_is _ xs (0 ∷ []) (let e : length (xs ++ 0 ∷ []) ≡ length xs + 1 = length-append xs (0 ∷ []) in omega arith)

length-padding : (n : ℕ) → length (padding n) + n ≡ padded n
unfolding padding
length-padding n = simp (length-replicate) (omega (arith, padded_least n))

pub length-name_field : (name : List ℕ) → length (name_field name) ≡ padded (length name + 3)
unfolding name_field
length-name_field name =
    let e : length (name ++ (0 ∷ padding (length name + 3))) ≡ length name + length (0 ∷ padding (length name + 3)) = length-append name (0 ∷ padding (length name + 3)) in
    omega (arith, length-padding (length name + 3))

pub length-attribute : (name : List ℕ) (body : Body) → length (attribute_bytes name body) ≡ padded (size_of name body.bytes)
unfolding attribute_bytes word_of size_of
length-attribute name body =
    let size = 4 + length (name_field name) + length body.bytes in
    let pad : length (padding size) + size ≡ padded size = length-padding size in
    let tail : length (name_field name ++ (body.bytes ++ padding size)) ≡ length (name_field name) + length (body.bytes ++ padding size) = length-append (name_field name) (body.bytes ++ padding size) in
    let inner : length (body.bytes ++ padding size) ≡ length body.bytes + length (padding size) = length-append body.bytes (padding size) in
    omega arith

size_sum : (name bytes : List ℕ) → 4 + length (name_field name) + length bytes ≡ size_of name bytes
unfolding size_of
size_sum name bytes = refl

-- an attribute in front of others, taken apart at its word, its name and its value
module _ (name : List ℕ) (body : Body) (rest : List ℕ) (plain : HasNoNul name) (short : length name < 2 ^ 16) (size : size_of name body.bytes < 2 ^ 24) (known : body.type ≤ 7) where
  whole : List ℕ
  whole = attribute_bytes name body ++ rest

  word_is : word_in whole ≡ 2 ^ 31 + body.type * 2 ^ 24 + size_of name body.bytes
  unfolding whole attribute_bytes word_in word_of
  word_is = from_be_bytes-to_be_bytes_4 (2 ^ 31 + body.type * 2 ^ 24 + size_of name body.bytes) (omega arith)

  flag_is : flag_in whole ≡ 1
  unfolding flag_in
  flag_is = ap (λ w. w / 2 ^ 31) word_is ∙ omega arith

  type_is : type_in whole ≡ body.type
  unfolding type_in
  type_is = ap (λ w. w / 2 ^ 24 % 128) word_is ∙ omega arith

  length_is : length_in whole ≡ size_of name body.bytes
  unfolding length_in
  length_is = ap (λ w. w % 2 ^ 24) word_is ∙ omega arith

  name_length_is : name_length_in whole ≡ length name
  unfolding whole attribute_bytes word_of name_field name_length_in
  name_length_is = from_be_bytes-to_be_bytes_2 (length name) short

  tail_is : drop 6 whole ≡ name ++ (0 ∷ (padding (length name + 3) ++ (body.bytes ++ (padding (size_of name body.bytes) ++ rest))))
  unfolding whole attribute_bytes word_of name_field
  tail_is = simp append_assoc

  named_is : named_in whole ≡ name ++ 0 ∷ []
  unfolding named_in
  named_is =
      let after = padding (length name + 3) ++ (body.bytes ++ (padding (size_of name body.bytes) ++ rest)) in
      let parts : drop 6 whole ≡ (name ++ 0 ∷ []) ++ after = tail_is ∙ sym (append_assoc name (0 ∷ []) after) in
      let l : length (name ++ 0 ∷ []) ≡ length name + 1 = length-append name (0 ∷ []) in
      ap (λ k. take (k + 1) (drop 6 whole)) name_length_is ∙ (ap (take (length name + 1)) parts ∙ front_is (length name + 1) (name ++ 0 ∷ []) after (sym l))

  name_is : name_in whole ≡ name
  unfolding name_in
  name_is = ap (λ k. take k (drop 6 whole)) name_length_is ∙ (ap (take (length name)) tail_is ∙ front_is (length name) name _ refl)

  place_is : value_place whole ≡ 4 + length (name_field name)
  unfolding value_place
  place_is = ap (λ k. 4 + padded (k + 3)) name_length_is ∙ ap (λ k. 4 + k) (sym (length-name_field name))

  head_is : whole ≡ ((word_of body.type (size_of name body.bytes) ++ name_field name) ++ body.bytes) ++ (padding (size_of name body.bytes) ++ rest)
  unfolding whole attribute_bytes
  head_is = simp append_assoc

  length-head : length (word_of body.type (size_of name body.bytes) ++ name_field name) ≡ 4 + length (name_field name)
  unfolding word_of
  length-head = length-append (word_of body.type (size_of name body.bytes)) (name_field name)

  length-front : length ((word_of body.type (size_of name body.bytes) ++ name_field name) ++ body.bytes) ≡ size_of name body.bytes
  unfolding size_of
  length-front = length-append (word_of body.type (size_of name body.bytes) ++ name_field name) body.bytes ∙ ap (λ k. k + length body.bytes) length-head

  value_is : value_in whole ≡ body.bytes
  unfolding value_in
  value_is =
      let front : take (length_in whole) whole ≡ (word_of body.type (size_of name body.bytes) ++ name_field name) ++ body.bytes =
      ap (take (length_in whole)) head_is ∙ front_is (length_in whole) _ (padding (size_of name body.bytes) ++ rest) (length_is ∙ sym length-front) in
      ap (drop (value_place whole)) front ∙ back_is (value_place whole) (word_of body.type (size_of name body.bytes) ++ name_field name) body.bytes (place_is ∙ sym length-head)

  behind_is : behind whole ≡ rest
  unfolding behind whole
  behind_is = back_is (padded (length_in (attribute_bytes name body ++ rest))) (attribute_bytes name body) rest (ap padded length_is ∙ sym (length-attribute name body))

  whole_is : IsWhole whole
  unfolding whole attribute_bytes
  whole_is =
      let l : length whole ≡ length (attribute_bytes name body) + length rest = length-append (attribute_bytes name body) rest in
      let s : 4 + length (name_field name) + length body.bytes ≡ size_of name body.bytes = size_sum name body.bytes in
      record {
        word = omega (arith, length-attribute name body, padded_least (size_of name body.bytes));
        room = subst (λ k. padded k ≤ length whole) (sym length_is) (omega (arith, length-attribute name body));
        least = omega (arith, length_is);
        flag = flag_is;
        type = subst (λ k. k ≤ 7) (sym type_is) known;
        name_room = omega (arith, length_is, place_is);
        name_end = ap is_terminated named_is ∙ ends name plain;
      }

type_known : (levels type : ℕ) (bytes : List ℕ) (v : Blob) → SpellsValue levels type bytes v → type ≤ 7
type_known levels type bytes v (leaf _ _ _ _ (nothing e s q)) = omega arith
type_known levels type bytes v (leaf _ _ _ _ (string e s q)) = omega arith
type_known levels type bytes v (leaf _ _ _ _ (int64 e s q)) = omega arith
type_known levels type bytes v (leaf _ _ _ _ (int32 e s q)) = omega arith
type_known levels type bytes v (leaf _ _ _ _ (int16 e s q)) = omega arith
type_known levels type bytes v (leaf _ _ _ _ (int8 e s q)) = omega arith
type_known levels type bytes v (nested _ f _ _ inner _ e s (array t q)) = omega arith
type_known levels type bytes v (nested _ f _ _ inner _ e s (table t q)) = omega arith

below64 : (n : ℤ) → FitsSigned w64 n → cast_unsigned w64 n < 2 ^ 64
below64 (pos n) f = omega (arith, f.sfits)
below64 (negsuc n) f = omega (arith, f.sfits)

below32 : (n : ℤ) → FitsSigned w32 n → cast_unsigned w32 n < 2 ^ 32
below32 (pos n) f = omega (arith, f.sfits)
below32 (negsuc n) f = omega (arith, f.sfits)

below16 : (n : ℤ) → FitsSigned w16 n → cast_unsigned w16 n < 2 ^ 16
below16 (pos n) f = omega (arith, f.sfits)
below16 (negsuc n) f = omega (arith, f.sfits)

below8 : (n : ℤ) → FitsSigned w8 n → cast_unsigned w8 n < 2 ^ 8
below8 (pos n) f = omega (arith, f.sfits)
below8 (negsuc n) f = omega (arith, f.sfits)

one_byte : (n : ℕ) → n < 2 ^ 8 → from_be_bytes w8 (to_be_bytes w8 n) ≡ n
one_byte n h = omega arith

back64 : (n : ℤ) → FitsSigned w64 n → cast_signed w64 (from_be_bytes w64 (to_be_bytes w64 (cast_unsigned w64 n))) ≡ n
back64 n f = ap (cast_signed w64) (from_be_bytes-to_be_bytes_8 (cast_unsigned w64 n) (below64 n f)) ∙ to_z-of_z w64 n f

back32 : (n : ℤ) → FitsSigned w32 n → cast_signed w32 (from_be_bytes w32 (to_be_bytes w32 (cast_unsigned w32 n))) ≡ n
back32 n f = ap (cast_signed w32) (from_be_bytes-to_be_bytes_4 (cast_unsigned w32 n) (below32 n f)) ∙ to_z-of_z w32 n f

back16 : (n : ℤ) → FitsSigned w16 n → cast_signed w16 (from_be_bytes w16 (to_be_bytes w16 (cast_unsigned w16 n))) ≡ n
back16 n f = ap (cast_signed w16) (from_be_bytes-to_be_bytes_2 (cast_unsigned w16 n) (below16 n f)) ∙ to_z-of_z w16 n f

back8 : (n : ℤ) → FitsSigned w8 n → cast_signed w8 (from_be_bytes w8 (to_be_bytes w8 (cast_unsigned w8 n))) ≡ n
back8 n f = ap (cast_signed w8) (one_byte (cast_unsigned w8 n) (below8 n f)) ∙ to_z-of_z w8 n f

abbrev IsSpelled : ℕ → Blob → Type 0
IsSpelled levels v = SpellsValue levels (body_of v).type (body_of v).bytes v

-- a value as bytes, by its kind
pub body-Unspec : body_of Unspec ≡ record { type = 0; bytes = [] }
body-Unspec = search (rules, the_lemmas)

pub body-Str : (text : List ℕ) → body_of (Str text) ≡ record { type = 3; bytes = text ++ 0 ∷ [] }
body-Str text = search (rules, the_lemmas)

pub body-I64 : (n : ℤ) → body_of (I64 n) ≡ record { type = 4; bytes = to_be_bytes w64 (cast_unsigned w64 n) }
body-I64 n = search (rules, the_lemmas)

pub body-I32 : (n : ℤ) → body_of (I32 n) ≡ record { type = 5; bytes = to_be_bytes w32 (cast_unsigned w32 n) }
body-I32 n = search (rules, the_lemmas)

pub body-I16 : (n : ℤ) → body_of (I16 n) ≡ record { type = 6; bytes = to_be_bytes w16 (cast_unsigned w16 n) }
body-I16 n = search (rules, the_lemmas)

pub body-I8 : (n : ℤ) → body_of (I8 n) ≡ record { type = 7; bytes = to_be_bytes w8 (cast_unsigned w8 n) }
body-I8 n = search (rules, the_lemmas)

pub body-Array : (attrs : List Attr) → body_of (Array attrs) ≡ record { type = 1; bytes = written attrs }
body-Array attrs = search (rules, the_lemmas)

pub body-Table : (attrs : List Attr) → body_of (Table attrs) ≡ record { type = 2; bytes = written attrs }
body-Table attrs = search (rules, the_lemmas)

as_body : (levels : ℕ) (v u : Blob) (b : Body) → v ≡ u → body_of u ≡ b → SpellsValue levels b.type b.bytes u → IsSpelled levels v
as_body levels v u b e f s = subst (IsSpelled levels) (sym e) (subst (λ (c : Body). SpellsValue levels c.type c.bytes u) (sym f) s)

plain_spelled : (levels : ℕ) (v : Blob) → IsPlain v → IsSpelled levels v
plain_spelled levels v (limits.nothing e) = as_body levels v Unspec _ e body-Unspec (leaf levels 0 [] Unspec (nothing refl refl refl))
plain_spelled levels v (limits.string text e h) = as_body levels v (Str text) _ e (body-Str text) (leaf levels 3 (text ++ 0 ∷ []) (Str text) (string refl (ends text h) (ap Str (sym (without_nul text)))))
plain_spelled levels v (limits.int64 n e f) =
    as_body levels v (I64 n) _ e (body-I64 n) (leaf levels 4 (to_be_bytes w64 (cast_unsigned w64 n)) (I64 n) (int64 refl refl (ap I64 (sym (back64 n f)))))
plain_spelled levels v (limits.int32 n e f) =
    as_body levels v (I32 n) _ e (body-I32 n) (leaf levels 5 (to_be_bytes w32 (cast_unsigned w32 n)) (I32 n) (int32 refl refl (ap I32 (sym (back32 n f)))))
plain_spelled levels v (limits.int16 n e f) =
    as_body levels v (I16 n) _ e (body-I16 n) (leaf levels 6 (to_be_bytes w16 (cast_unsigned w16 n)) (I16 n) (int16 refl refl (ap I16 (sym (back16 n f)))))
plain_spelled levels v (limits.int8 n e f) =
    as_body levels v (I8 n) _ e (body-I8 n) (leaf levels 7 (to_be_bytes w8 (cast_unsigned w8 n)) (I8 n) (int8 refl refl (ap I8 (sym (back8 n f)))))

nested_spelled : (levels fewer : ℕ) (inner : List Attr) (v : Blob) → levels ≡ suc fewer → Holds v inner → Spells fewer (written inner) inner → IsSpelled levels v
nested_spelled levels fewer inner v l (limits.array e) s = as_body levels v (Array inner) _ e (body-Array inner) (nested levels fewer 1 (written inner) inner (Array inner) l s (array refl refl))
nested_spelled levels fewer inner v l (limits.table e) s = as_body levels v (Table inner) _ e (body-Table inner) (nested levels fewer 2 (written inner) inner (Table inner) l s (table refl refl))

front_spelled : (levels : ℕ) (a : Attr) (others : List Attr) → IsSized a → IsSpelled levels a.value → Spells levels (written others) others → Spells levels (written (a ∷ others)) (a ∷ others)
unfolding attribute_bytes whole
front_spelled levels a others z v r =
    let body = body_of a.value in
    let rest = written others in
    let known = type_known levels body.type body.bytes a.value v in
    let t = type_is a.name body rest z.name_plain z.name_length z.size known in
    let b = value_is a.name body rest z.name_plain z.name_length z.size known in
    attribute levels (written (a ∷ others)) a.value others (a ∷ others) (whole_is a.name body rest z.name_plain z.name_length z.size known)
    (subst (λ (k : ℕ). SpellsValue levels k (value_in (written (a ∷ others))) a.value) (sym t) (subst (λ (bs : List ℕ). SpellsValue levels body.type bs a.value) (sym b) v))
    (subst (λ (bs : List ℕ). Spells levels bs others) (sym (behind_is a.name body rest z.name_plain z.name_length z.size known)) r)
    (ap (λ (n : List ℕ). record { name = n; value = a.value } ∷ others) (sym (name_is a.name body rest z.name_plain z.name_length z.size known)))

mutual
  pub spelled : (levels : ℕ) (attrs : List Attr) → Fits levels attrs → Spells levels (written attrs) attrs
  spelled levels attrs (limits.none _ _ e) = subst (λ (xs : List Attr). Spells levels (written xs) xs) (sym e) (none levels [] [] refl refl)
  spelled levels attrs (limits.attribute _ a others _ e s v r) =
      subst (λ (xs : List Attr). Spells levels (written xs) xs) (sym e) (front_spelled levels a others s (value_spelled levels a.value v) (spelled levels others r))

  value_spelled : (levels : ℕ) (v : Blob) → FitsValue levels v → IsSpelled levels v
  value_spelled levels v (limits.plain _ _ p) = plain_spelled levels v p
  value_spelled levels v (limits.nested _ fewer inner _ e h f) = nested_spelled levels fewer inner v e h (spelled fewer inner f)
