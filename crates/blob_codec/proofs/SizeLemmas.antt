-- How many bytes attributes take, and whether they have a spelling.
use Rattle.std.proofs.Common.{ℕ, zero, suc, ℤ, ◌≡◌, ◌≢◌, ◌+◌, ◌-◌, ◌^◌, ◌<◌, ◌≤◌, min, List, [], ◌∷◌, ◌++◌, length, get_or, take, drop, Option, Some, None, MatchOption, arith, rules, refl, sym, ap, subst, ◌∙◌, length-append, FitsSigned}
use Rattle.std.proofs.lemmas.List.{append_cancel_right}
use Rattle.std.specs.Int.{w8, w16, w32, w64}
use Rattle.blob_codec.specs.declared.blob.Blob.{Blob, the_lemmas}
use Rattle.blob_codec.specs.declared.blob.Blob.TheOpen.{Blob-F}
use Rattle.blob_codec.specs.declared.blob.Blob.TheViews.{out-Blob}
use Rattle.blob_codec.specs.declared.blob.Blob.TheVariants.{Unspec, Array, Table, Str, I64, I32, I16, I8}
use Rattle.blob_codec.specs.declared.blob.Attr.{Attr}
use Rattle.blob_codec.specs.Attribute.{padded}
use Rattle.blob_codec.specs.Limits.{Fits, FitsValue, IsPlain, Holds, HasNoNul, none, attribute, plain, nested, nothing, string, int64, int32, int16, int8, array, table}
use Rattle.blob_codec.specs.Writing.{AttrFitsAt, FitDeeper}
use Rattle.blob_codec.specs.Written.{Body, body_of, name_field, size_of, written, written_attr}
use Rattle.blob_codec.proofs.SpellingLemmas.{length-attribute, length-name_field, body-Unspec, body-Str, body-I64, body-I32, body-I16, body-I8, body-Array, body-Table}
use Rattle.blob_codec.proofs.WrittenLemmas.{cons_head, cons_tail, rest_at, written_more}

-- the first of attributes that fit, and the others
first_of : (levels : ℕ) (xs others : List Attr) (x : Attr) → xs ≡ x ∷ others → Fits levels xs → AttrFitsAt levels x × Fits levels others
first_of levels xs others x e (none _ _ n) = absurd (let q : [] ≡ x ∷ others = sym n ∙ e in cc)
first_of levels xs others x e (attribute _ y ys _ q s v r) =
    let t : y ∷ ys ≡ x ∷ others = sym q ∙ e in
    (subst (AttrFitsAt levels) (cons_head y x ys others t) (record { sized = s; fits = v }), subst (Fits levels) (cons_tail y x ys others t) r)

behind_fit : (levels : ℕ) (xs : List Attr) (i : ℕ) → Fits levels xs → Fits levels (drop i xs)
behind_fit levels xs zero f = f
behind_fit levels [] (suc i) f = f
behind_fit levels (x ∷ xs) (suc i) f = behind_fit levels xs i (first_of levels (x ∷ xs) xs x refl f).1

pub item_fits : (levels : ℕ) (xs : List Attr) (i : ℕ) (x : Attr) → i < length xs → x ≡ get_or xs i x → Fits levels xs → AttrFitsAt levels x
item_fits levels xs i x h e f = (first_of levels (drop i xs) (drop (i + 1) xs) x (rest_at xs i x h e) (behind_fit levels xs i f)).0

pub front_fits : (levels : ℕ) (xs : List Attr) (i : ℕ) (x : Attr) → i < length xs → x ≡ get_or xs i x → AttrFitsAt levels x → Fits levels (drop (i + 1) xs) → Fits levels (drop i xs)
front_fits levels xs i x h e a r = attribute levels x (drop (i + 1) xs) (drop i xs) (rest_at xs i x h e) a.sized a.fits r

pub none_fit : (levels : ℕ) (xs : List Attr) (i : ℕ) → length xs ≤ i → Fits levels (drop i xs)
none_fit levels [] zero h = none levels [] refl
none_fit levels [] (suc i) h = none levels [] refl
none_fit levels (x ∷ xs) zero h = absurd (omega arith)
none_fit levels (x ∷ xs) (suc i) h = none_fit levels xs i (omega arith)

pub size_more : (xs : List Attr) (i : ℕ) (x : Attr) (total added sum : ℕ) → i < length xs → x ≡ get_or xs i x → total ≡ min (length (written (take i xs))) (2 ^ 64 - 1)
    → added ≡ padded (size_of x.name (body_of x.value).bytes) → sum ≡ min (total + added) (2 ^ 64 - 1) → sum ≡ min (length (written (take (i + 1) xs))) (2 ^ 64 - 1)
size_more xs i x total added sum h e t a s =
    let l : length (written (take (i + 1) xs)) ≡ length (written (take i xs)) + length (written_attr x) = ap length (written_more xs i x h e) ∙ length-append (written (take i xs)) (written_attr x) in
    let m : length (written_attr x) ≡ padded (size_of x.name (body_of x.value).bytes) = length-attribute x.name (body_of x.value) in
    omega arith

pub size_sum : (name bytes : List ℕ) (n p : ℕ) → n ≡ length name → p ≡ padded (n + 3) → 4 + p + length bytes ≡ size_of name bytes
unfolding size_of
size_sum name bytes n p e f =
    let l : length (name_field name) ≡ padded (length name + 3) = length-name_field name in
    let g : p ≡ padded (length name + 3) = f ∙ ap (λ k. padded (k + 3)) e in
    omega arith

-- a value of each kind
value_at : (levels n : ℕ) (v u : Blob) (b : Body) → v ≡ u → body_of u ≡ b → IsPlain v → n ≡ min (length b.bytes) (2 ^ 64 - 1)
    → FitsValue levels v × (n ≡ min (length (body_of v).bytes) (2 ^ 64 - 1))
value_at levels n v u b e f p s = (plain levels v p, s ∙ ap (λ (c : Body). min (length c.bytes) (2 ^ 64 - 1)) (sym f ∙ ap body_of (sym e)))

pub nothing_at : (levels : ℕ) (v : Blob) → v ≡ Unspec → FitsValue levels v × (0 ≡ min (length (body_of v).bytes) (2 ^ 64 - 1))
nothing_at levels v e = value_at levels 0 v Unspec _ e body-Unspec (nothing e) refl

pub int64_at : (levels : ℕ) (v : Blob) (n : ℤ) → FitsSigned w64 n → v ≡ I64 n → FitsValue levels v × (8 ≡ min (length (body_of v).bytes) (2 ^ 64 - 1))
int64_at levels v n f e = value_at levels 8 v (I64 n) _ e (body-I64 n) (int64 n e f) refl

pub int32_at : (levels : ℕ) (v : Blob) (n : ℤ) → FitsSigned w32 n → v ≡ I32 n → FitsValue levels v × (4 ≡ min (length (body_of v).bytes) (2 ^ 64 - 1))
int32_at levels v n f e = value_at levels 4 v (I32 n) _ e (body-I32 n) (int32 n e f) refl

pub int16_at : (levels : ℕ) (v : Blob) (n : ℤ) → FitsSigned w16 n → v ≡ I16 n → FitsValue levels v × (2 ≡ min (length (body_of v).bytes) (2 ^ 64 - 1))
int16_at levels v n f e = value_at levels 2 v (I16 n) _ e (body-I16 n) (int16 n e f) refl

pub int8_at : (levels : ℕ) (v : Blob) (n : ℤ) → FitsSigned w8 n → v ≡ I8 n → FitsValue levels v × (1 ≡ min (length (body_of v).bytes) (2 ^ 64 - 1))
int8_at levels v n f e = value_at levels 1 v (I8 n) _ e (body-I8 n) (int8 n e f) refl

-- the type of a value tells its kind
type_at : (v u : Blob) (b : Body) → v ≡ u → body_of u ≡ b → (body_of v).type ≡ b.type
type_at v u b e f = ap (λ w. (body_of w).type) e ∙ ap (λ (c : Body). c.type) f

string_of : (v : Blob) (text : List ℕ) → v ≡ Str text → IsPlain v → HasNoNul text
string_of v text e (nothing q) = absurd (let h : 0 ≡ 3 = sym (type_at v Unspec _ q body-Unspec) ∙ type_at v (Str text) _ e (body-Str text) in omega arith)
string_of v text e (int64 n q f) = absurd (let h : 4 ≡ 3 = sym (type_at v (I64 n) _ q (body-I64 n)) ∙ type_at v (Str text) _ e (body-Str text) in omega arith)
string_of v text e (int32 n q f) = absurd (let h : 5 ≡ 3 = sym (type_at v (I32 n) _ q (body-I32 n)) ∙ type_at v (Str text) _ e (body-Str text) in omega arith)
string_of v text e (int16 n q f) = absurd (let h : 6 ≡ 3 = sym (type_at v (I16 n) _ q (body-I16 n)) ∙ type_at v (Str text) _ e (body-Str text) in omega arith)
string_of v text e (int8 n q f) = absurd (let h : 7 ≡ 3 = sym (type_at v (I8 n) _ q (body-I8 n)) ∙ type_at v (Str text) _ e (body-Str text) in omega arith)
string_of v text e (string other q h) =
    let b : other ++ 0 ∷ [] ≡ text ++ 0 ∷ [] =
    ap (λ (c : Body). c.bytes) (sym (body-Str other)) ∙ (ap (λ w. (body_of w).bytes) (sym q ∙ e) ∙ ap (λ (c : Body). c.bytes) (body-Str text)) in
    subst HasNoNul (append_cancel_right other text (0 ∷ []) b) h

text_of : (levels : ℕ) (v : Blob) (text : List ℕ) → v ≡ Str text → FitsValue levels v → HasNoNul text
text_of levels v text e (plain _ _ p) = string_of v text e p
text_of levels v text e (nested _ f inner _ l (array q) r) = absurd (let h : 1 ≡ 3 = sym (type_at v (Array inner) _ q (body-Array inner)) ∙ type_at v (Str text) _ e (body-Str text) in omega arith)
text_of levels v text e (nested _ f inner _ l (table q) r) = absurd (let h : 2 ≡ 3 = sym (type_at v (Table inner) _ q (body-Table inner)) ∙ type_at v (Str text) _ e (body-Str text) in omega arith)

pub string_at : (levels : ℕ) (v : Blob) (text slice : List ℕ) (o : Option ℕ) → v ≡ Str text → slice ≡ text
    → MatchOption o (HasNoNul slice → ⊥) (λ n. HasNoNul slice × (n ≡ min (length slice + 1) (2 ^ 64 - 1)))
    → MatchOption o (FitsValue levels v → ⊥) (λ n. FitsValue levels v × (n ≡ min (length (body_of v).bytes) (2 ^ 64 - 1)))
string_at levels v text slice None e s h = λ f. h (subst HasNoNul (sym s) (text_of levels v text e f))
string_at levels v text slice (Some n) e s h =
    let l : length (text ++ 0 ∷ []) ≡ length text + 1 = length-append text (0 ∷ []) in
    value_at levels n v (Str text) _ e (body-Str text) (string text e (subst HasNoNul s h.0)) (h.1 ∙ ap (λ k. min k (2 ^ 64 - 1)) (ap (λ t. length t + 1) s ∙ sym l))

-- the attributes that a value holds
inner_in : Blob-F Blob Attr → List Attr
inner_in Blob-F.Unspec = []
inner_in (Blob-F.Array attrs) = attrs
inner_in (Blob-F.Table attrs) = attrs
inner_in (Blob-F.Str text) = []
inner_in (Blob-F.I64 n) = []
inner_in (Blob-F.I32 n) = []
inner_in (Blob-F.I16 n) = []
inner_in (Blob-F.I8 n) = []

held-Array : (attrs : List Attr) → inner_in (out-Blob (Array attrs)) ≡ attrs
unfolding inner_in
held-Array attrs = search (rules, the_lemmas)

held-Table : (attrs : List Attr) → inner_in (out-Blob (Table attrs)) ≡ attrs
unfolding inner_in
held-Table attrs = search (rules, the_lemmas)

held_by : (v : Blob) (attrs : List Attr) → Holds v attrs → inner_in (out-Blob v) ≡ attrs
held_by v attrs (array e) = ap (λ w. inner_in (out-Blob w)) e ∙ held-Array attrs
held_by v attrs (table e) = ap (λ w. inner_in (out-Blob w)) e ∙ held-Table attrs

plain_type : (v : Blob) → IsPlain v → (body_of v).type ≢ 1 × (body_of v).type ≢ 2
plain_type v (nothing q) = let h : (body_of v).type ≡ 0 = type_at v Unspec _ q body-Unspec in (omega arith, omega arith)
plain_type v (string text q f) = let h : (body_of v).type ≡ 3 = type_at v (Str text) _ q (body-Str text) in (omega arith, omega arith)
plain_type v (int64 n q f) = let h : (body_of v).type ≡ 4 = type_at v (I64 n) _ q (body-I64 n) in (omega arith, omega arith)
plain_type v (int32 n q f) = let h : (body_of v).type ≡ 5 = type_at v (I32 n) _ q (body-I32 n) in (omega arith, omega arith)
plain_type v (int16 n q f) = let h : (body_of v).type ≡ 6 = type_at v (I16 n) _ q (body-I16 n) in (omega arith, omega arith)
plain_type v (int8 n q f) = let h : (body_of v).type ≡ 7 = type_at v (I8 n) _ q (body-I8 n) in (omega arith, omega arith)

not_plain : (v : Blob) (attrs : List Attr) → Holds v attrs → IsPlain v → ⊥
not_plain v attrs (array e) p = (plain_type v p).0 (type_at v (Array attrs) _ e (body-Array attrs))
not_plain v attrs (table e) p = (plain_type v p).1 (type_at v (Table attrs) _ e (body-Table attrs))

inner_of : (levels : ℕ) (v : Blob) (attrs : List Attr) → Holds v attrs → FitsValue levels v → FitDeeper levels attrs
inner_of levels v attrs h (plain _ _ p) = absurd (not_plain v attrs h p)
inner_of levels v attrs h (nested _ fewer inner _ l k f) =
    record { fewer = fewer; level = l; fit = subst (Fits fewer) (sym (held_by v inner k) ∙ held_by v attrs h) f }

written_in : (v : Blob) (attrs : List Attr) → Holds v attrs → (body_of v).bytes ≡ written attrs
written_in v attrs (array e) = ap (λ w. (body_of w).bytes) e ∙ ap (λ (c : Body). c.bytes) (body-Array attrs)
written_in v attrs (table e) = ap (λ w. (body_of w).bytes) e ∙ ap (λ (c : Body). c.bytes) (body-Table attrs)

inner_at : (levels : ℕ) (v : Blob) (attrs slice : List Attr) (o : Option ℕ) → Holds v attrs → slice ≡ attrs
    → MatchOption o (FitDeeper levels slice → ⊥) (λ n. FitDeeper levels slice × (n ≡ min (length (written slice)) (2 ^ 64 - 1)))
    → MatchOption o (FitsValue levels v → ⊥) (λ n. FitsValue levels v × (n ≡ min (length (body_of v).bytes) (2 ^ 64 - 1)))
inner_at levels v attrs slice None h s m = λ f. m (subst (FitDeeper levels) (sym s) (inner_of levels v attrs h f))
inner_at levels v attrs slice (Some n) h s m =
    let d : FitDeeper levels attrs = subst (FitDeeper levels) s m.0 in
    (nested levels d.fewer attrs v d.level h d.fit, m.1 ∙ ap (λ bs. min (length bs) (2 ^ 64 - 1)) (ap written s ∙ sym (written_in v attrs h)))

pub array_at : (levels : ℕ) (v : Blob) (attrs slice : List Attr) (o : Option ℕ) → v ≡ Array attrs → slice ≡ attrs
    → MatchOption o (FitDeeper levels slice → ⊥) (λ n. FitDeeper levels slice × (n ≡ min (length (written slice)) (2 ^ 64 - 1)))
    → MatchOption o (FitsValue levels v → ⊥) (λ n. FitsValue levels v × (n ≡ min (length (body_of v).bytes) (2 ^ 64 - 1)))
array_at levels v attrs slice o e s m = inner_at levels v attrs slice o (array e) s m

pub table_at : (levels : ℕ) (v : Blob) (attrs slice : List Attr) (o : Option ℕ) → v ≡ Table attrs → slice ≡ attrs
    → MatchOption o (FitDeeper levels slice → ⊥) (λ n. FitDeeper levels slice × (n ≡ min (length (written slice)) (2 ^ 64 - 1)))
    → MatchOption o (FitsValue levels v → ⊥) (λ n. FitsValue levels v × (n ≡ min (length (body_of v).bytes) (2 ^ 64 - 1)))
table_at levels v attrs slice o e s m = inner_at levels v attrs slice o (table e) s m
