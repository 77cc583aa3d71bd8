-- Values as bytes, level by level, and bytes that the writer puts together.
use Rattle.std.proofs.Common.{ℕ, zero, suc, ◌≡◌, ◌+◌, ◌-◌, ◌*◌, ◌^◌, ◌<◌, ◌≤◌, List, [], ◌∷◌, ◌++◌, length, take, drop, set, get_or, replicate, rules, arith, refl, sym, ap, subst, ◌∙◌, append_assoc, append-nil, length-append, drop-cons}
use Rattle.std.proofs.Common.{Result, Ok, Err, OnOk, OnErr}
use Rattle.std.specs.Int.{w16, w32, to_be_bytes}
use Rattle.blob_codec.specs.Attribute.{padded}
use Rattle.std.proofs.lemmas.List.{take_more}
use Rattle.std.proofs.Math.Seq.{take-append_seam}
use Rattle.blob_codec.specs.declared.blob.Attr.{Attr}
use Rattle.blob_codec.specs.Limits.{Fits, none, attribute}
use Rattle.blob_codec.specs.Writing.{AllFit, AttrFits, EachFits, BeginsWith}
use Rattle.blob_codec.specs.Written.{Body, padding, name_field, word_of, size_of, attribute_bytes, written, written_attr}
use Rattle.blob_codec.proofs.FieldLemmas.{padded_most}

pub cons_head : {X : Type 0} (x y : X) (xs ys : List X) → x ∷ xs ≡ y ∷ ys → x ≡ y
cons_head x y xs ys e = cc

pub cons_tail : {X : Type 0} (x y : X) (xs ys : List X) → x ∷ xs ≡ y ∷ ys → xs ≡ ys
cons_tail x y xs ys e = cc

begins_on : (old mid new : List ℕ) → BeginsWith mid old → BeginsWith new mid → BeginsWith new old
begins_on [] mid new h k = refl
begins_on (x ∷ old) [] new h k = absurd (let n : [] ≡ x ∷ old = h in cc)
begins_on (x ∷ old) (y ∷ mid) [] h k = absurd (let n : [] ≡ y ∷ mid = k in cc)
begins_on (x ∷ old) (y ∷ mid) (z ∷ new) h k =
    let p : y ≡ x = cons_head y x (take (length old) mid) old h in
    let q : z ≡ y = cons_head z y (take (length mid) new) mid k in
    let r : take (length old) new ≡ old = begins_on old mid new (cons_tail y x (take (length old) mid) old h) (cons_tail z y (take (length mid) new) mid k) in
    cc

pub err_has : {A E : Type 0} (r : Result A E) (old mid new more : List ℕ) → mid ≡ old ++ more → BeginsWith new mid → OnErr r (BeginsWith new old)
err_has (Ok a) old mid new more e h = tt
err_has (Err a) old mid new more e h = begins_on old mid new (ap (take (length old)) e ∙ take-append_seam old more) h

pub ok_is : {A E : Type 0} (r : Result A E) (x y z : List ℕ) → y ≡ z → OnOk r (x ≡ y) → OnOk r (x ≡ z)
ok_is (Ok a) x y z e h = h ∙ e
ok_is (Err a) x y z e h = tt

taken_zeros : (n : ℕ) → n ≤ 3 → take {A = ℕ} n (0 ∷ 0 ∷ 0 ∷ []) ≡ replicate {A = ℕ} n 0
taken_zeros zero h = refl
taken_zeros (suc zero) h = refl
taken_zeros (suc (suc zero)) h = refl
taken_zeros (suc (suc (suc zero))) h = refl
taken_zeros (suc (suc (suc (suc n)))) h = absurd (omega arith)

pub zeros_are : (size n : ℕ) (zeros : List ℕ) → n ≡ padded size → zeros ≡ take {A = ℕ} (n - size) (0 ∷ 0 ∷ 0 ∷ []) → zeros ≡ padding size
unfolding padding
zeros_are size n zeros e z =
    let m : padded size - size ≤ 3 = omega (arith, padded_most size) in
    z ∙ (ap (λ k. take {A = ℕ} (k - size) (0 ∷ 0 ∷ 0 ∷ [])) e ∙ taken_zeros (padded size - size) m)

pub name_written : (old head named name two : List ℕ) → head ≡ old ++ (0 ∷ 0 ∷ 0 ∷ 0 ∷ get_or two 0 0 ∷ get_or two 1 0 ∷ []) → two ≡ to_be_bytes w16 (length name)
    → named ≡ head ++ (name ++ 0 ∷ []) → named ++ padding (length name + 3) ≡ old ++ (0 ∷ 0 ∷ 0 ∷ 0 ∷ name_field name)
unfolding name_field
name_written old head named name two h t n = simp (n, h, t, append_assoc)

put_four : (xs : List ℕ) (i a b c d : ℕ) → i + 4 ≤ length xs
    → set (set (set (set xs i a) (suc i) b) (suc (suc i)) c) (suc (suc (suc i))) d ≡ take i xs ++ (a ∷ b ∷ c ∷ d ∷ drop (suc (suc (suc (suc i)))) xs)
put_four [] i a b c d h = absurd (omega arith)
put_four (x ∷ []) zero a b c d h = absurd (omega arith)
put_four (x ∷ y ∷ []) zero a b c d h = absurd (omega arith)
put_four (x ∷ y ∷ z ∷ []) zero a b c d h = absurd (omega arith)
put_four (x ∷ y ∷ z ∷ w ∷ xs) zero a b c d h = refl
put_four (x ∷ xs) (suc i) a b c d h = ap (λ ys. x ∷ ys) (put_four xs i a b c d (omega arith))

one_more : (i : ℕ) → i + 1 ≡ suc i
one_more i = omega arith

two_more : (i : ℕ) → i + 2 ≡ suc (suc i)
two_more i = omega arith

three_more : (i : ℕ) → i + 3 ≡ suc (suc (suc i))
three_more i = omega arith

four_more : (i : ℕ) → i + 4 ≡ suc (suc (suc (suc i)))
four_more i = omega arith

pub word_put : (xs bytes : List ℕ) (i kind size word : ℕ) → i + 4 ≤ length xs → bytes ≡ to_be_bytes w32 word → word ≡ 2 ^ 31 + kind * 2 ^ 24 + size
    → set (set (set (set xs i (get_or bytes 0 0)) (i + 1) (get_or bytes 1 0)) (i + 2) (get_or bytes 2 0)) (i + 3) (get_or bytes 3 0)
    ≡ take i xs ++ (word_of kind size ++ drop (i + 4) xs)
unfolding word_of
word_put xs bytes i kind size word h b w = rw (one_more i, two_more i, three_more i, four_more i, b, w) (put_four xs i _ _ _ _ h)

-- what is behind four bytes that follow others
behind_four : (xs : List ℕ) (a b c d : ℕ) (ys : List ℕ) → drop (suc (suc (suc (suc (length xs))))) (xs ++ (a ∷ b ∷ c ∷ d ∷ ys)) ≡ ys
behind_four [] a b c d ys = refl
behind_four (x ∷ xs) a b c d ys = behind_four xs a b c d ys

joined : (old field bytes named valued : List ℕ) → named ≡ old ++ (0 ∷ 0 ∷ 0 ∷ 0 ∷ field) → valued ≡ named ++ bytes → valued ≡ old ++ (0 ∷ 0 ∷ 0 ∷ 0 ∷ (field ++ bytes))
joined old field bytes named valued n v = simp (v, n, append_assoc)

pub size_is : (old name bytes named valued : List ℕ) (len start : ℕ) → named ≡ old ++ (0 ∷ 0 ∷ 0 ∷ 0 ∷ name_field name) → valued ≡ named ++ bytes
    → start ≡ length old → len ≡ length valued → len - start ≡ size_of name bytes
unfolding size_of
size_is old name bytes named valued len start n v s l =
    let e : length valued ≡ length old + length (0 ∷ 0 ∷ 0 ∷ 0 ∷ (name_field name ++ bytes)) = ap length (joined old (name_field name) bytes named valued n v) ∙ length-append _ _ in
    let f : length (name_field name ++ bytes) ≡ length (name_field name) + length bytes = length-append _ _ in
    omega arith

pub attr_written : (old name bytes named valued worded : List ℕ) (type start size : ℕ) → named ≡ old ++ (0 ∷ 0 ∷ 0 ∷ 0 ∷ name_field name) → valued ≡ named ++ bytes
    → start ≡ length old → size ≡ size_of name bytes → worded ≡ take start valued ++ (word_of type size ++ drop (start + 4) valued)
    → worded ++ padding size ≡ old ++ attribute_bytes name (record { type = type; bytes = bytes })
unfolding attribute_bytes
attr_written old name bytes named valued worded type start size n v s z w =
    let j : valued ≡ old ++ (0 ∷ 0 ∷ 0 ∷ 0 ∷ (name_field name ++ bytes)) = joined old (name_field name) bytes named valued n v in
    let front : take start valued ≡ old = ap (λ k. take k valued) s ∙ (ap (take (length old)) j ∙ take-append_seam old _) in
    let back : drop (start + 4) valued ≡ name_field name ++ bytes =
    ap (λ k. drop k valued) (four_more start ∙ ap (λ k. suc (suc (suc (suc k)))) s) ∙ (ap (drop (suc (suc (suc (suc (length old)))))) j ∙ behind_four old 0 0 0 0 _) in
    simp (w, front, back, z, append_assoc)

pub attr_is_written : (old name named valued worded name' : List ℕ) (body : Body) (type start size : ℕ) → named ≡ old ++ (0 ∷ 0 ∷ 0 ∷ 0 ∷ name_field name) → valued ≡ named ++ body.bytes
    → start ≡ length old → size ≡ size_of name body.bytes → worded ≡ take start valued ++ (word_of type size ++ drop (start + 4) valued) → name ≡ name' → type ≡ body.type
    → worded ++ padding size ≡ old ++ attribute_bytes name' body
attr_is_written old name named valued worded name' body type start size n v s z w e f =
    attr_written old name body.bytes named valued worded type start size n v s z w
    ∙ (ap (λ k. old ++ attribute_bytes k (record { type = type; bytes = body.bytes })) e ∙ ap (λ k. old ++ attribute_bytes name' (record { type = k; bytes = body.bytes })) f)

pub word_keeps : (old name bytes named valued worded behind : List ℕ) (start : ℕ) → named ≡ old ++ (0 ∷ 0 ∷ 0 ∷ 0 ∷ name_field name) → valued ≡ named ++ bytes
    → start ≡ length old → worded ≡ take start valued ++ behind → BeginsWith worded old
word_keeps old name bytes named valued worded behind start n v s w =
    let j : valued ≡ old ++ (0 ∷ 0 ∷ 0 ∷ 0 ∷ (name_field name ++ bytes)) = joined old (name_field name) bytes named valued n v in
    let front : take start valued ≡ old = ap (λ k. take k valued) s ∙ (ap (take (length old)) j ∙ take-append_seam old _) in
    let e : worded ≡ old ++ behind = w ∙ ap (λ xs. xs ++ behind) front in
    ap (take (length old)) e ∙ take-append_seam old behind

pub kept_on : {A E : Type 0} (r : Result A E) (old mid new : List ℕ) → BeginsWith mid old → OnErr r (BeginsWith new mid) → OnErr r (BeginsWith new old)
kept_on (Ok a) old mid new h k = tt
kept_on (Err a) old mid new h k = begins_on old mid new h k

pub begins_all : (old more : List ℕ) → BeginsWith (old ++ more) old
begins_all old more = take-append_seam old more

written-append : (xs ys : List Attr) → written (xs ++ ys) ≡ written xs ++ written ys
written-append [] ys = refl
written-append (x ∷ xs) ys = ap (λ zs. written_attr x ++ zs) (written-append xs ys) ∙ sym (append_assoc (written_attr x) (written xs) (written ys))

pub written_more : (xs : List Attr) (i : ℕ) (x : Attr) → i < length xs → x ≡ get_or xs i x → written (take (i + 1) xs) ≡ written (take i xs) ++ written_attr x
written_more xs i x h e =
    let t : take (i + 1) xs ≡ take i xs ++ x ∷ [] = take_more xs i x h ∙ ap (λ y. take i xs ++ y ∷ []) (sym e) in
    ap written t ∙ (written-append (take i xs) (x ∷ []) ∙ ap (λ zs. written (take i xs) ++ zs) (append-nil (written_attr x)))

pub rest_at : (xs : List Attr) (i : ℕ) (x : Attr) → i < length xs → x ≡ get_or xs i x → drop i xs ≡ x ∷ drop (i + 1) xs
rest_at xs i x h e = drop-cons xs i x h ∙ (ap (λ y. y ∷ drop (suc i) xs) (sym e) ∙ ap (λ k. x ∷ drop k xs) (sym (one_more i)))

first_fits : (xs others : List Attr) (x : Attr) (levels : ℕ) → xs ≡ x ∷ others → Fits levels xs → AttrFits x × Fits levels others
first_fits xs others x levels e (none _ _ n) = absurd (let q : [] ≡ x ∷ others = sym n ∙ e in cc)
first_fits xs others x levels e (attribute _ y ys _ q s v r) =
    let t : y ∷ ys ≡ x ∷ others = sym q ∙ e in
    let h : y ≡ x = cons_head y x ys others t in
    let k : ys ≡ others = cons_tail y x ys others t in
    (subst AttrFits h (record { sized = s; value = record { levels = levels; fits = v } }), subst (Fits levels) k r)

attr_fits : (xs : List Attr) (i : ℕ) (x : Attr) → i < length xs → x ≡ get_or xs i x → AllFit (drop i xs) → AttrFits x
attr_fits xs i x h e f = (first_fits (drop i xs) (drop (i + 1) xs) x f.levels (rest_at xs i x h e) f.fit).0

fit_behind : (xs : List Attr) (k : ℕ) → AllFit xs → AllFit (drop k xs)
fit_behind xs zero f = f
fit_behind [] (suc k) f = f
fit_behind (x ∷ xs) (suc k) f = fit_behind xs k (record { levels = f.levels; fit = (first_fits (x ∷ xs) xs x f.levels refl f.fit).1 })

pub each_fits : (xs : List Attr) → AllFit xs → EachFits xs
each_fits xs f k x h e = attr_fits xs k x h e (fit_behind xs k f)
