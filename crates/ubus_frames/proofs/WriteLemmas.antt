-- What the writer puts together, and how many bytes that is.
use Rattle.std.proofs.Common.{ℕ, zero, suc, ◌≡◌, ◌+◌, ◌*◌, ◌^◌, ◌<◌, ◌≤◌, List, [], ◌∷◌, ◌++◌, length, take, get_or, Option, Some, None, arith, refl, sym, ap, ◌∙◌, append_assoc, append-nil, length-append}
use Rattle.std.specs.Int.{w16, w32, to_be_bytes}
use Rattle.std.specs.List.{concat}
use Rattle.std.proofs.lemmas.List.{take_more, length-replicate}
use Rattle.blob_codec.specs.Attribute.{padded}
use Rattle.blob_codec.specs.Limits.{FitsBlob, HasNoNul}
use Rattle.blob_codec.specs.Written.{padding, written as blob_bytes}
use Rattle.ubus_frames.specs.declared.frame.TheConstants.{MOST_BLOB}
use Rattle.ubus_frames.specs.declared.frame.Frame.{Frame}
use Rattle.ubus_frames.specs.Sizes.{FitsPart, size_where}
use Rattle.ubus_frames.specs.Written.{FitsFrame, IfThere, number_bytes, numbers_bytes, text_bytes, truth_bytes, where_some, written_field, fields_of, written_fields, written_frame}
use Rattle.ubus_frames.proofs.FieldLemmas.{padded_least}

pub field_is : (old worded valued bytes : List ℕ) (id : ℕ) → worded ≡ old ++ to_be_bytes w32 (id * 2 ^ 24 + (4 + length bytes)) → valued ≡ worded ++ bytes
    → valued ++ padding (4 + length bytes) ≡ old ++ written_field id bytes
unfolding written_field
field_is old worded valued bytes id w v =
    ap (λ xs. xs ++ padding (4 + length bytes)) (v ∙ ap (λ xs. xs ++ bytes) w)
    ∙ (append_assoc (old ++ to_be_bytes w32 (id * 2 ^ 24 + (4 + length bytes))) bytes (padding (4 + length bytes))
    ∙ append_assoc old (to_be_bytes w32 (id * 2 ^ 24 + (4 + length bytes))) (bytes ++ padding (4 + length bytes)))

length-padding : (n : ℕ) → length (padding n) + n ≡ padded n
unfolding padding
length-padding n = simp (length-replicate) (omega (arith, padded_least n))

pub length-written_field : (id : ℕ) (bytes : List ℕ) → length (written_field id bytes) ≡ padded (4 + length bytes)
unfolding written_field
length-written_field id bytes =
    let pad : length (padding (4 + length bytes)) + (4 + length bytes) ≡ padded (4 + length bytes) = length-padding (4 + length bytes) in
    let inner : length (bytes ++ padding (4 + length bytes)) ≡ length bytes + length (padding (4 + length bytes)) = length-append bytes (padding (4 + length bytes)) in
    omega arith

pub part_size : {T : Type 0} (bytes_of : T → List ℕ) (id : ℕ) (part : Option T) → length (where_some bytes_of id part) ≡ size_where bytes_of part
part_size bytes_of id None = refl
part_size bytes_of id (Some value) = length-written_field id (bytes_of value)

-- the data of a part leave room for its word
pub part_room : {T : Type 0} (bytes_of : T → List ℕ) (id most : ℕ) (part : Option T) (value : T) (bytes : List ℕ) → part ≡ Some value
    → length (where_some bytes_of id part) < most → bytes ≡ bytes_of value → length bytes + 4 < most
part_room bytes_of id most part value bytes p r e =
    let s : length (where_some bytes_of id part) ≡ size_where bytes_of part = part_size bytes_of id part in
    let t : size_where bytes_of part ≡ padded (4 + length (bytes_of value)) = ap (size_where bytes_of) p in
    let l : length bytes ≡ length (bytes_of value) = ap length e in
    omega (arith, padded_least (4 + length (bytes_of value)))

numbers-append : (xs ys : List ℕ) → numbers_bytes (xs ++ ys) ≡ numbers_bytes xs ++ numbers_bytes ys
numbers-append [] ys = refl
numbers-append (x ∷ xs) ys =
    ap (λ zs. written_field 0 (number_bytes x) ++ zs) (numbers-append xs ys) ∙ sym (append_assoc (written_field 0 (number_bytes x)) (numbers_bytes xs) (numbers_bytes ys))

numbers_more : (xs : List ℕ) (i d : ℕ) → i < length xs → numbers_bytes (take (i + 1) xs) ≡ numbers_bytes (take i xs) ++ written_field 0 (number_bytes (get_or xs i d))
numbers_more xs i d h =
    ap numbers_bytes (take_more xs i d h) ∙ (numbers-append (take i xs) (get_or xs i d ∷ []) ∙ ap (λ zs. numbers_bytes (take i xs) ++ zs) (append-nil (written_field 0 (number_bytes (get_or xs i d)))))

eight : padded 8 ≡ 8
unfolding padded
eight = refl

pub list_more : (old out new xs : List ℕ) (i d : ℕ) (a : List ℕ) → i < length xs → a ≡ to_be_bytes w32 (get_or xs i d) → out ≡ old ++ numbers_bytes (take i xs)
    → new ≡ out ++ written_field 0 a → new ≡ old ++ numbers_bytes (take (i + 1) xs)
list_more old out new xs i d a h e o n =
    let more : numbers_bytes (take i xs) ++ written_field 0 a ≡ numbers_bytes (take (i + 1) xs) =
    ap (λ b. numbers_bytes (take i xs) ++ written_field 0 b) e ∙ sym (numbers_more xs i d h) in
    n ∙ (ap (λ ys. ys ++ written_field 0 a) o ∙ (append_assoc old (numbers_bytes (take i xs)) (written_field 0 a) ∙ ap (λ ys. old ++ ys) more))

pub length-numbers : (ns : List ℕ) → length (numbers_bytes ns) ≡ 8 * length ns
length-numbers [] = refl
length-numbers (n ∷ ns) =
    let r : length (numbers_bytes ns) ≡ 8 * length ns = length-numbers ns in
    let a : length (written_field 0 (number_bytes n) ++ numbers_bytes ns) ≡ length (written_field 0 (number_bytes n)) + length (numbers_bytes ns) =
    length-append (written_field 0 (number_bytes n)) (numbers_bytes ns) in
    let f : length (written_field 0 (number_bytes n)) ≡ 8 = length-written_field 0 (number_bytes n) ∙ eight in
    omega arith

-- one list more behind those that are joined
joined : (old mid new one rest : List ℕ) → mid ≡ old ++ one → new ≡ mid ++ rest → new ≡ old ++ (one ++ rest)
joined old mid new one rest m n = n ∙ (ap (λ xs. xs ++ rest) m ∙ append_assoc old one rest)

pub thirteen : (o0 o1 o2 o3 o4 o5 o6 o7 o8 o9 o10 o11 o12 p1 p2 p3 p4 p5 p6 p7 p8 p9 p10 p11 p12 p13 : List ℕ)
    → o1 ≡ o0 ++ p1 → o2 ≡ o1 ++ p2 → o3 ≡ o2 ++ p3 → o4 ≡ o3 ++ p4 → o5 ≡ o4 ++ p5 → o6 ≡ o5 ++ p6 → o7 ≡ o6 ++ p7 → o8 ≡ o7 ++ p8 → o9 ≡ o8 ++ p9
    → o10 ≡ o9 ++ p10 → o11 ≡ o10 ++ p11 → o12 ≡ o11 ++ p12
    → o12 ++ p13 ≡ o0 ++ concat (p1 ∷ p2 ∷ p3 ∷ p4 ∷ p5 ∷ p6 ∷ p7 ∷ p8 ∷ p9 ∷ p10 ∷ p11 ∷ p12 ∷ p13 ∷ [])
thirteen o0 o1 o2 o3 o4 o5 o6 o7 o8 o9 o10 o11 o12 p1 p2 p3 p4 p5 p6 p7 p8 p9 p10 p11 p12 p13 e1 e2 e3 e4 e5 e6 e7 e8 e9 e10 e11 e12 =
    joined o0 o1 _ p1 _ e1 (joined o1 o2 _ p2 _ e2 (joined o2 o3 _ p3 _ e3 (joined o3 o4 _ p4 _ e4 (joined o4 o5 _ p5 _ e5 (joined o5 o6 _ p6 _ e6
    (joined o6 o7 _ p7 _ e7 (joined o7 o8 _ p8 _ e8 (joined o8 o9 _ p9 _ e9 (joined o9 o10 _ p10 _ e10 (joined o10 o11 _ p11 _ e11
    (joined o11 o12 _ p12 _ e12 (ap (λ xs. o12 ++ xs) (sym (append-nil p13))))))))))))))

no_id : (n : ℕ) → 0 * 2 ^ 24 + n ≡ n
no_id n = omega arith

pub whole_is : (old kinded numbered peered worded : List ℕ) (frame : Frame) (fields : List ℕ) (size : ℕ) → kinded ≡ old ++ (0 ∷ frame.kind ∷ [])
    → numbered ≡ kinded ++ to_be_bytes w16 frame.seq → peered ≡ numbered ++ to_be_bytes w32 frame.peer → worded ≡ peered ++ to_be_bytes w32 (0 * 2 ^ 24 + size)
    → size ≡ 4 + length fields → fields ≡ written_fields frame → worded ++ fields ≡ old ++ written_frame frame
unfolding written_frame
whole_is old kinded numbered peered worded frame fields size k n p w z f =
    let e : worded ≡ peered ++ to_be_bytes w32 (4 + length (written_fields frame)) = w ∙ ap (λ m. peered ++ to_be_bytes w32 m) (no_id size ∙ (z ∙ ap (λ xs. 4 + length xs) f)) in
    joined old kinded _ (0 ∷ frame.kind ∷ []) _ k (joined kinded numbered _ (to_be_bytes w16 frame.seq) _ n (joined numbered peered _ (to_be_bytes w32 frame.peer) _ p
    (joined peered worded _ (to_be_bytes w32 (4 + length (written_fields frame))) _ e (ap (λ xs. worded ++ xs) f))))

-- how long lists are together
abbrev total : List (List ℕ) → ℕ
total [] = 0
total (part ∷ parts) = length part + total parts

length-concat : (parts : List (List ℕ)) → length (concat parts) ≡ total parts
length-concat [] = refl
length-concat (part ∷ parts) = length-append part (concat parts) ∙ ap (λ n. length part + n) (length-concat parts)

one_of : (parts : List (List ℕ)) (k : ℕ) → length (get_or parts k []) ≤ total parts
one_of [] k = omega arith
one_of (part ∷ parts) zero = omega arith
one_of (part ∷ parts) (suc k) = let r : length (get_or parts k []) ≤ total parts = one_of parts k in omega arith

-- each part of a frame that fits is short
pub part_short : (frame : Frame) (k : ℕ) → FitsFrame frame → length (get_or (fields_of frame) k []) ≤ MOST_BLOB
part_short frame k f =
    let s : 4 + length (written_fields frame) ≤ MOST_BLOB = f.size in
    omega (arith, length-concat (fields_of frame), one_of (fields_of frame) k)

pub part_below : (frame : Frame) (k : ℕ) (part : List ℕ) → FitsFrame frame → part ≡ get_or (fields_of frame) k [] → length part < 2 ^ 24
part_below frame k part f e = let l : length part ≡ length (get_or (fields_of frame) k []) = ap length e in omega (arith, part_short frame k f)

pub part_most : {T : Type 0} (frame : Frame) (bytes_of : T → List ℕ) (id k : ℕ) (part : Option T) → FitsFrame frame → where_some bytes_of id part ≡ get_or (fields_of frame) k []
    → size_where bytes_of part ≤ MOST_BLOB
part_most frame bytes_of id k part f e =
    let l : length (where_some bytes_of id part) ≡ length (get_or (fields_of frame) k []) = ap length e in
    omega (arith, part_short frame k f, part_size bytes_of id part)

pub sizes : (frame : Frame) → length (written_fields frame) ≡ size_where number_bytes frame.status + (size_where text_bytes frame.path + (size_where number_bytes frame.id
    + (size_where text_bytes frame.method + (size_where number_bytes frame.objtype + (size_where blob_bytes frame.signature + (size_where blob_bytes frame.payload
    + (size_where number_bytes frame.target + (size_where truth_bytes frame.active + (size_where truth_bytes frame.no_reply + (size_where numbers_bytes frame.subscribers
    + (size_where text_bytes frame.user + (size_where text_bytes frame.group + 0))))))))))))
sizes frame =
    length-concat (fields_of frame) ∙ simp (
      part_size number_bytes 1 frame.status,
      part_size text_bytes 2 frame.path,
      part_size number_bytes 3 frame.id,
      part_size text_bytes 4 frame.method,
      part_size number_bytes 5 frame.objtype,
      part_size blob_bytes 6 frame.signature,
      part_size blob_bytes 7 frame.payload,
      part_size number_bytes 8 frame.target,
      part_size truth_bytes 9 frame.active,
      part_size truth_bytes 10 frame.no_reply,
      part_size numbers_bytes 11 frame.subscribers,
      part_size text_bytes 12 frame.user,
      part_size text_bytes 13 frame.group,
    )

pub fits_path : (frame : Frame) → FitsFrame frame → FitsPart HasNoNul text_bytes frame.path
fits_path frame f = record { there = f.parts.path; size = part_most frame text_bytes 2 1 frame.path f refl }

pub fits_method : (frame : Frame) → FitsFrame frame → FitsPart HasNoNul text_bytes frame.method
fits_method frame f = record { there = f.parts.method; size = part_most frame text_bytes 4 3 frame.method f refl }

pub fits_signature : (frame : Frame) → FitsFrame frame → FitsPart FitsBlob blob_bytes frame.signature
fits_signature frame f = record { there = f.parts.signature; size = part_most frame blob_bytes 6 5 frame.signature f refl }

pub fits_payload : (frame : Frame) → FitsFrame frame → FitsPart FitsBlob blob_bytes frame.payload
fits_payload frame f = record { there = f.parts.payload; size = part_most frame blob_bytes 7 6 frame.payload f refl }

any_there : (part : Option (List ℕ)) → IfThere (λ _. Unit) part
any_there None = tt
any_there (Some value) = tt

pub fits_subscribers : (frame : Frame) → FitsFrame frame → FitsPart (λ _. Unit) numbers_bytes frame.subscribers
fits_subscribers frame f = record { there = any_there frame.subscribers; size = part_most frame numbers_bytes 11 10 frame.subscribers f refl }

pub fits_user : (frame : Frame) → FitsFrame frame → FitsPart HasNoNul text_bytes frame.user
fits_user frame f = record { there = f.parts.user; size = part_most frame text_bytes 12 11 frame.user f refl }

pub fits_group : (frame : Frame) → FitsFrame frame → FitsPart HasNoNul text_bytes frame.group
fits_group frame f = record { there = f.parts.group; size = part_most frame text_bytes 13 12 frame.group f refl }

pub sum_is : (frame : Frame) (path method signature payload subscribers user group status id objtype target active no_reply : ℕ)
    → path ≡ size_where text_bytes frame.path → method ≡ size_where text_bytes frame.method → signature ≡ size_where blob_bytes frame.signature
    → payload ≡ size_where blob_bytes frame.payload → subscribers ≡ size_where numbers_bytes frame.subscribers → user ≡ size_where text_bytes frame.user
    → group ≡ size_where text_bytes frame.group → status ≡ size_where number_bytes frame.status → id ≡ size_where number_bytes frame.id
    → objtype ≡ size_where number_bytes frame.objtype → target ≡ size_where number_bytes frame.target → active ≡ size_where truth_bytes frame.active
    → no_reply ≡ size_where truth_bytes frame.no_reply
    → path + method + signature + payload + subscribers + user + group + (status + id + objtype + target) + (active + no_reply) ≡ length (written_fields frame)
sum_is frame path method signature payload subscribers user group status id objtype target active no_reply e1 e2 e3 e4 e5 e6 e7 e8 e9 e10 e11 e12 e13 =
    omega (arith, sizes frame)
