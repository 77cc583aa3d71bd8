-- Bytes divide into frames and a rest in one way.
use Rattle.std.proofs.Common.{ℕ, zero, suc, ◌≡◌, ◌≢◌, ◌+◌, ◌<◌, ◌≤◌, ◌⊎◌, inl, inr, Bool, true, false, nat_eq, nat_lt, List, [], ◌∷◌, ◌++◌, length, Option, Some, None, arith, refl, sym, ap, subst, ◌∙◌, append_assoc}
use Rattle.std.specs.Prelude.{◌||◌, not}
use Rattle.std.specs.Int.{w8, w32, from_be_bytes}
use Rattle.std.proofs.lemmas.Bool.Decides.{nat_tests}
use Rattle.std.proofs.lemmas.List.{length-drop}
use Rattle.blob_codec.specs.declared.blob.TheConstants.{MOST_LEVELS}
use Rattle.blob_codec.specs.declared.blob.Attr.{Attr}
use Rattle.blob_codec.specs.declared.blob_error.BlobError.{BlobError}
use Rattle.blob_codec.specs.declared.blob_error.BlobError.TheVariants.{Short, BadLength, BadType, NoNul}
use Rattle.blob_codec.specs.Attribute.{padded, flag_in, type_in, length_in, behind, is_terminated, without_last}
use Rattle.blob_codec.specs.Blob.{SpellsBlob}
use Rattle.blob_codec.specs.Fault.{Test, first_held, is_cut, IsBlobFault}
use Rattle.blob_codec.proofs.TotalLemmas.{total}
use Rattle.ubus_frames.specs.declared.frame.TheConstants.{MOST_BLOB}
use Rattle.ubus_frames.specs.declared.frame.Frame.{Frame}
use Rattle.ubus_frames.specs.declared.frame_error.FrameError.{FrameError}
use Rattle.ubus_frames.specs.declared.frame_error.FrameError.TheVariants.{Version, TooLong, BadBlob}
use Rattle.ubus_frames.specs.declared.value.Kind.{Kind}
use Rattle.ubus_frames.specs.declared.value.Kind.TheVariants.{OneNumber, OneText, AttrList, OneByte, NumberList}
use Rattle.ubus_frames.specs.declared.value.Value.{Value}
use Rattle.ubus_frames.specs.declared.value.Value.TheVariants.{Number, Words, Attrs, Truth, Numbers}
use Rattle.ubus_frames.specs.Fault as fault
use Rattle.ubus_frames.specs.Fault.{IsValueFault, IsKnownFault, IsFieldsFault, IsWordFault, IsFrameFault, moved, moved_fault, known_fault, too_long, bad_length, bad_type}
use Rattle.ubus_frames.specs.Field.{IsWhole, data_in, word_tests}
use Rattle.ubus_frames.specs.Frame.{HasHead, version_in, bare_in, blob_in, blob_length_in, fields_in}
use Rattle.ubus_frames.specs.Layout as layout
use Rattle.ubus_frames.specs.Layout.{Puts, Changes, MakesOf, BeginsWithFrame, IsUnfinished, kind_of_word}
use Rattle.ubus_frames.specs.Numbers as list
use Rattle.ubus_frames.specs.Numbers.{IsNumber, SpellsNumbers, IsNumberFault, IsNumbersFault}
use Rattle.ubus_frames.specs.Stream as stream
use Rattle.ubus_frames.specs.Stream.{IsRest, Divides, Holds, Stream, Appends, Takes, Reaches, behind_frame, unfinished, faulty, empty}
use Rattle.ubus_frames.specs.Value as value
use Rattle.ubus_frames.specs.Value.{IsValue, put}
use Rattle.ubus_frames.proofs.FieldLemmas.{length-behind, padded_least}
use Rattle.ubus_frames.proofs.OneLemmas.{one_made}
use Rattle.ubus_frames.proofs.OnceLemmas.{frame_clash, begun_clash}
use Rattle.ubus_frames.proofs.StreamLemmas.{divides_more}

rest_clash : (bytes : List ℕ) (frame : Frame) → BeginsWithFrame bytes frame → IsRest bytes → ⊥
rest_clash bytes frame b (unfinished u) = begun_clash bytes frame b u
rest_clash bytes frame b (faulty error f) = frame_clash bytes error frame f b

pub one_way : (bytes : List ℕ) (frames others : List Frame) (rest end : List ℕ) → Divides bytes frames rest → Divides bytes others end → (others ≡ frames) × (end ≡ rest)
one_way bytes frames others rest end (stream.none _ _ _ r f e) (stream.none _ _ _ s g d) = (g ∙ sym f, d ∙ sym e)
one_way bytes frames others rest end (stream.none _ _ _ r f e) (stream.frame _ x xs _ _ b t g) = absurd (rest_clash bytes x b r)
one_way bytes frames others rest end (stream.frame _ x xs _ _ b t f) (stream.none _ _ _ s g d) = absurd (rest_clash bytes x b s)
one_way bytes frames others rest end (stream.frame _ x xs _ _ b t f) (stream.frame _ y ys _ _ c u g) =
    let same : y ≡ x = one_made (fields_in bytes) (bare_in bytes) x y b.fields c.fields in
    let i = one_way (behind_frame bytes) xs ys rest end t u in
    (g ∙ (ap (λ z. z ∷ ys) same ∙ (ap (λ zs. x ∷ zs) i.0 ∙ sym f)), i.1)

lt_from_false : (a b : ℕ) → nat_lt a b ≡ false → b ≤ a
lt_from_false a b h = grind (arith, nat_tests)

lt_from_true : (a b : ℕ) → nat_lt a b ≡ true → a < b
lt_from_true a b h = grind (arith, nat_tests)

eq_from_true : (a b : ℕ) → nat_eq a b ≡ true → a ≡ b
eq_from_true a b h = grind (arith, nat_tests)

eq_from_false : (a b : ℕ) → nat_eq a b ≡ false → a ≡ b → ⊥
eq_from_false a b h e = grind (arith, nat_tests)

-- two numbers are the same or not, one is below the other or not
by_eq : (a b : ℕ) (P : Type 0) → (a ≡ b → P) → ((a ≡ b → ⊥) → P) → P
by_eq a b P equal other =
    elim (nat_eq a b) as (λ t. nat_eq a b ≡ t → P)
    [ true ↦ (λ e. equal (eq_from_true a b e)) | false ↦ (λ e. other (eq_from_false a b e)) ] refl

by_lt : (a b : ℕ) (P : Type 0) → (a < b → P) → (b ≤ a → P) → P
by_lt a b P below above =
    elim (nat_lt a b) as (λ t. nat_lt a b ≡ t → P)
    [ true ↦ (λ e. below (lt_from_true a b e)) | false ↦ (λ e. above (lt_from_false a b e)) ] refl

by_bool : (b : Bool) (P : Type 0) → (b ≡ true → P) → (b ≡ false → P) → P
by_bool b P holds fails = elim b as (λ t. b ≡ t → P) [ true ↦ holds | false ↦ fails ] refl

by_option : {T : Type 0} (o : Option T) (P : Type 0) → (o ≡ None → P) → ((x : T) → o ≡ Some x → P) → P
by_option o P without with = elim o as (λ t. o ≡ t → P) [ None ↦ without | Some x ↦ with x ] refl

left_false : (a b : Bool) → (a || b) ≡ false → a ≡ false
left_false true b h = h
left_false false b h = refl

right_false : (a b : Bool) → (a || b) ≡ false → b ≡ false
right_false true b h = absurd (let n : true ≡ false = h in cc)
right_false false b h = h

not_held : (holds : Bool) (fault : BlobError) (tests : List Test) → first_held (record { holds = holds; fault = fault } ∷ tests) ≡ None
    → (holds ≡ false) × (first_held tests ≡ None)
not_held true fault tests h = absurd (let n : Some fault ≡ None = h in cc)
not_held false fault tests h = (refl, h)

whole_from : (place : ℕ) (bytes : List ℕ) → first_held (word_tests place bytes) ≡ None → IsWhole bytes
whole_from place bytes h =
    let a = not_held (is_cut bytes) (Short place) (record { holds = nat_lt (length_in bytes) 4; fault = BadLength place } ∷ []) h in
    let b = not_held (nat_lt (length_in bytes) 4) (BadLength place) [] a.1 in
    record {
      word = lt_from_false (length bytes) 4 (left_false (nat_lt (length bytes) 4) (nat_lt (length bytes) (padded (length_in bytes))) a.0);
      room = lt_from_false (length bytes) (padded (length_in bytes)) (right_false (nat_lt (length bytes) 4) (nat_lt (length bytes) (padded (length_in bytes))) a.0);
      least = lt_from_false (length_in bytes) 4 b.0;
    }

behind_below : (bytes : List ℕ) (k : ℕ) → IsWhole bytes → length bytes < suc k → length (behind bytes) < k
behind_below bytes k w h = let l : 4 ≤ length_in bytes = w.least in omega (arith, length-behind bytes w, padded_least (length_in bytes))

HasNumbers : ℕ → List ℕ → Type 0
HasNumbers place bytes = ((ns : List ℕ) × SpellsNumbers bytes ns) ⊎ ((error : BlobError) × IsNumbersFault place bytes error)

numbers_on : (place : ℕ) (bytes : List ℕ) → IsNumber bytes → HasNumbers (place + padded (length_in bytes)) (behind bytes) → HasNumbers place bytes
unfolding HasNumbers
numbers_on place bytes is (inl t) = inl (from_be_bytes w32 (data_in bytes) ∷ t.0, list.number bytes t.0 _ is t.1 refl)
numbers_on place bytes is (inr f) = inr (f.0, list.later place bytes f.0 is f.1)

numbers_front : (place : ℕ) (bytes : List ℕ) → 0 < length bytes → (error : BlobError) → IsNumberFault place bytes error → HasNumbers place bytes
unfolding HasNumbers
numbers_front place bytes h error f = inr (error, list.front place bytes error h f)

no_numbers : (place : ℕ) (bytes : List ℕ) → length bytes ≡ 0 → HasNumbers place bytes
unfolding HasNumbers
no_numbers place bytes z = inl ([], list.none bytes [] z refl)

numbers_or_fault : (k place : ℕ) (bytes : List ℕ) → length bytes < k → HasNumbers place bytes
numbers_or_fault zero place bytes h = absurd (omega arith)
numbers_or_fault (suc k) place bytes h =
    by_eq (length bytes) 0 (HasNumbers place bytes) (no_numbers place bytes) (λ some.
    let p : 0 < length bytes = by_eq (length bytes) 0 (0 < length bytes) (λ z. absurd (some z)) (λ n. by_lt 0 (length bytes) (0 < length bytes) (λ x. x) (λ z. absurd (n (omega arith)))) in
    by_option (first_held (word_tests place bytes)) (HasNumbers place bytes)
    (λ e. let w = whole_from place bytes e in
    by_eq (flag_in bytes) 0 (HasNumbers place bytes) (λ f.
    by_eq (type_in bytes) 0 (HasNumbers place bytes) (λ i.
    by_eq (length (data_in bytes)) 4 (HasNumbers place bytes) (λ s.
    numbers_on place bytes (record { whole = w; flag = f; id = i; size = s }) (numbers_or_fault k (place + padded (length_in bytes)) (behind bytes) (behind_below bytes k w h)))
    (λ s. numbers_front place bytes p (BadLength place) (list.size w f i s refl)))
    (λ i. numbers_front place bytes p (BadType place) (list.id w f i refl)))
    (λ f. numbers_front place bytes p (BadType place) (list.flag w f refl)))
    (λ error e. numbers_front place bytes p error (list.word e)))

HasValue : ℕ → Kind → List ℕ → Type 0
HasValue place kind bytes = ((v : Value) × IsValue kind bytes v) ⊎ ((error : BlobError) × IsValueFault place kind bytes error)

attrs_on : (place : ℕ) (bytes : List ℕ) → ((xs : List Attr) × SpellsBlob bytes xs) ⊎ ((error : BlobError) × IsBlobFault bytes error) → HasValue place AttrList bytes
unfolding HasValue
attrs_on place bytes (inl s) = inl (Attrs s.0, value.attrs s.0 refl s.1 refl)
attrs_on place bytes (inr f) = inr (moved (place + 4) f.0, fault.attrs refl (moved_fault f.0 f.1 refl))

list_on : (place : ℕ) (bytes : List ℕ) → HasNumbers (place + 4) bytes → HasValue place NumberList bytes
unfolding HasValue HasNumbers
list_on place bytes (inl s) = inl (Numbers s.0, value.numbers s.0 refl s.1 refl)
list_on place bytes (inr f) = inr (f.0, fault.numbers refl f.1)

value_or_fault : (place : ℕ) (kind : Kind) (bytes : List ℕ) → HasValue place kind bytes
unfolding HasValue
value_or_fault place OneNumber bytes =
    by_eq (length bytes) 4 (HasValue place OneNumber bytes) (λ e. inl (Number (from_be_bytes w32 bytes), value.number refl e refl)) (λ n. inr (BadLength place, fault.number refl n refl))
value_or_fault place OneText bytes =
    by_bool (is_terminated bytes) (HasValue place OneText bytes) (λ e. inl (Words (without_last bytes), value.text refl e refl)) (λ n. inr (NoNul place, fault.text refl n refl))
value_or_fault place AttrList bytes = attrs_on place bytes (total (length bytes + 1) MOST_LEVELS 0 bytes (omega arith))
value_or_fault place OneByte bytes =
    by_eq (length bytes) 1 (HasValue place OneByte bytes) (λ e. inl (Truth (not (nat_eq (from_be_bytes w8 bytes) 0)), value.byte refl e refl)) (λ n. inr (BadLength place, fault.byte refl n refl))
value_or_fault place NumberList bytes = list_on place bytes (numbers_or_fault (length bytes + 1) (place + 4) bytes (omega arith))

HasPut : ℕ → ℕ → ℕ → List ℕ → Frame → Type 0
HasPut place flag id bytes before = ((after : Frame) × Puts flag id bytes before after) ⊎ ((error : BlobError) × IsKnownFault place flag id bytes error)

put_on : (place flag id : ℕ) (bytes : List ℕ) (before : Frame) (kind : Kind) → kind_of_word flag id ≡ Some kind → HasValue place kind bytes → HasPut place flag id bytes before
unfolding HasPut HasValue
put_on place flag id bytes before kind k (inl v) = inl (put id v.0 before, layout.known kind v.0 k v.1 refl)
put_on place flag id bytes before kind k (inr f) = inr (f.0, known_fault kind k f.1)

put_or_fault : (place flag id : ℕ) (bytes : List ℕ) (before : Frame) → HasPut place flag id bytes before
unfolding HasPut
put_or_fault place flag id bytes before =
    by_option (kind_of_word flag id) (HasPut place flag id bytes before) (λ n. inl (before, layout.passed n refl)) (λ kind k. put_on place flag id bytes before kind k (value_or_fault place kind bytes))

HasMade : ℕ → List ℕ → Frame → Type 0
HasMade place bytes before = ((after : Frame) × MakesOf bytes before after) ⊎ ((error : BlobError) × IsFieldsFault place bytes error)

made_on : (place : ℕ) (bytes : List ℕ) (before between : Frame) → Changes bytes before between → HasMade (place + padded (length_in bytes)) (behind bytes) between → HasMade place bytes before
unfolding HasMade
made_on place bytes before between ch (inl t) = inl (t.0, layout.field bytes before between t.0 ch t.1)
made_on place bytes before between ch (inr f) = inr (f.0, fault.later place bytes f.0 before between ch f.1)

made_from : (place : ℕ) (bytes : List ℕ) (before : Frame) → IsWhole bytes → HasPut place (flag_in bytes) (type_in bytes) (data_in bytes) before
    → ((between : Frame) → HasMade (place + padded (length_in bytes)) (behind bytes) between) → HasMade place bytes before
unfolding HasMade HasPut
made_from place bytes before w (inl p) rest = made_on place bytes before p.0 (record { whole = w; puts = p.1 }) (rest p.0)
made_from place bytes before w (inr f) rest = inr (f.0, fault.value place bytes f.0 w f.1)

no_fields : (place : ℕ) (bytes : List ℕ) (before : Frame) → length bytes ≡ 0 → HasMade place bytes before
unfolding HasMade
no_fields place bytes before z = inl (before, layout.none bytes before before z refl)

bad_word : (place : ℕ) (bytes : List ℕ) (before : Frame) (error : BlobError) → 0 < length bytes → first_held (word_tests place bytes) ≡ Some error → HasMade place bytes before
unfolding HasMade
bad_word place bytes before error p e = inr (error, fault.word place bytes error p e)

made_or_fault : (k place : ℕ) (bytes : List ℕ) (before : Frame) → length bytes < k → HasMade place bytes before
made_or_fault zero place bytes before h = absurd (omega arith)
made_or_fault (suc k) place bytes before h =
    by_lt 0 (length bytes) (HasMade place bytes before) (λ p.
    by_option (first_held (word_tests place bytes)) (HasMade place bytes before)
    (λ e. let w = whole_from place bytes e in
    made_from place bytes before w (put_or_fault place (flag_in bytes) (type_in bytes) (data_in bytes) before)
    (λ between. made_or_fault k (place + padded (length_in bytes)) (behind bytes) between (behind_below bytes k w h)))
    (λ error e. bad_word place bytes before error p e))
    (λ z. no_fields place bytes before (omega arith))

HasFrame : List ℕ → Type 0
HasFrame bytes = ((frame : Frame) × BeginsWithFrame bytes frame) ⊎ IsRest bytes

frame_on : (bytes : List ℕ) → HasHead bytes → 8 + blob_length_in bytes ≤ length bytes → HasMade 12 (fields_in bytes) (bare_in bytes) → HasFrame bytes
unfolding HasFrame HasMade
frame_on bytes h r (inl m) = inl (m.0, record { head = h; room = r; fields = m.1 })
frame_on bytes h r (inr f) = inr (faulty (BadBlob f.0) (fault.fields f.0 h r f.1 refl))

not_unfinished : (bytes : List ℕ) → IsUnfinished bytes → HasFrame bytes
unfolding HasFrame
not_unfinished bytes u = inr (unfinished u)

word_fault : (bytes : List ℕ) (error : FrameError) → 12 ≤ length bytes → version_in bytes ≡ 0 → IsWordFault bytes error → HasFrame bytes
unfolding HasFrame
word_fault bytes error t v f = inr (faulty error (fault.head (fault.word t v f)))

version_fault : (bytes : List ℕ) → 0 < length bytes → version_in bytes ≢ 0 → HasFrame bytes
unfolding HasFrame
version_fault bytes p n = inr (faulty (Version (version_in bytes)) (fault.head (fault.version p n refl)))

with_head : (bytes : List ℕ) → HasHead bytes → HasFrame bytes
with_head bytes h =
    by_lt (length bytes) (8 + blob_length_in bytes) (HasFrame bytes) (λ s. not_unfinished bytes (layout.blob h s))
    (λ r. frame_on bytes h r (made_or_fault (length (fields_in bytes) + 1) 12 (fields_in bytes) (bare_in bytes) (omega arith)))

with_word : (bytes : List ℕ) → 12 ≤ length bytes → version_in bytes ≡ 0 → HasFrame bytes
with_word bytes t v =
    by_lt MOST_BLOB (blob_length_in bytes) (HasFrame bytes) (λ l. word_fault bytes (TooLong (blob_length_in bytes)) t v (too_long l refl)) (λ most.
    by_lt (blob_length_in bytes) 4 (HasFrame bytes) (λ s. word_fault bytes (BadBlob (BadLength 8)) t v (bad_length s refl)) (λ least.
    by_eq (flag_in (blob_in bytes)) 0 (HasFrame bytes) (λ f.
    by_eq (type_in (blob_in bytes)) 0 (HasFrame bytes) (λ i.
    with_head bytes (record { head = t; version = v; taken = record { least = least; most = most; plain = record { flag = f; id = i } } }))
    (λ n. word_fault bytes (BadBlob (BadType 8)) t v (bad_type least most (λ p. n p.id) refl)))
    (λ n. word_fault bytes (BadBlob (BadType 8)) t v (bad_type least most (λ p. n p.flag) refl))))

frame_or_rest : (bytes : List ℕ) → HasFrame bytes
frame_or_rest bytes =
    by_lt 0 (length bytes) (HasFrame bytes) (λ p.
    by_eq (version_in bytes) 0 (HasFrame bytes) (λ v.
    by_lt (length bytes) 12 (HasFrame bytes) (λ s. not_unfinished bytes (layout.head p s v)) (λ t. with_word bytes t v))
    (λ n. version_fault bytes p n))
    (λ z. not_unfinished bytes (layout.nothing (omega arith)))

pub IsDivided : List ℕ → Type 0
IsDivided bytes = (frames : List Frame) × (rest : List ℕ) × Divides bytes frames rest

divided_on : (bytes : List ℕ) → HasFrame bytes → ((frame : Frame) → BeginsWithFrame bytes frame → IsDivided (behind_frame bytes)) → IsDivided bytes
unfolding HasFrame IsDivided
divided_on bytes (inl f) rest = let d = rest f.0 f.1 in (f.0 ∷ d.0, d.1, stream.frame bytes f.0 d.0 (f.0 ∷ d.0) d.1 f.1 d.2 refl)
divided_on bytes (inr r) rest = ([], bytes, stream.none bytes [] bytes r refl refl)

behind_frame_below : (bytes : List ℕ) (frame : Frame) (k : ℕ) → BeginsWithFrame bytes frame → length bytes < suc k → length (behind_frame bytes) < k
unfolding behind_frame
behind_frame_below bytes frame k b h =
    let r : 8 + blob_length_in bytes ≤ length bytes = b.room in
    omega (arith, length-drop (8 + blob_length_in bytes) bytes)

divided : (k : ℕ) (bytes : List ℕ) → length bytes < k → IsDivided bytes
divided zero bytes h = absurd (omega arith)
divided (suc k) bytes h = divided_on bytes (frame_or_rest bytes) (λ frame b. divided k (behind_frame bytes) (behind_frame_below bytes frame k b h))

pub a_way : (bytes : List ℕ) → (frames : List Frame) × (rest : List ℕ) × Divides bytes frames rest
unfolding IsDivided
a_way bytes = divided (length bytes + 1) bytes (omega arith)

no_frame : Divides [] [] []
no_frame = stream.none [] [] [] (unfinished (layout.nothing refl)) refl refl

pub reached : (bytes : List ℕ) (taken : List Frame) (now : Stream) → Reaches bytes taken now → Divides bytes (taken ++ now.frames) now.rest
reached bytes taken now (stream.new _ _ _ b t n) =
    subst (λ (s : Stream). Divides bytes (taken ++ s.frames) s.rest) (sym n)
    (subst (λ (ts : List Frame). Divides bytes (ts ++ []) []) (sym t) (subst (λ (bs : List ℕ). Divides bs [] []) (sym b) no_frame))
reached bytes taken now (stream.fed before piece _ _ was _ r a e) =
    let d : Divides (before ++ piece) ((taken ++ was.frames) ++ a.found) now.rest =
    divides_more before piece (taken ++ was.frames) a.found was.rest now.rest (reached before taken was r) a.divides in
    let f : (taken ++ was.frames) ++ a.found ≡ taken ++ now.frames = append_assoc taken was.frames a.found ∙ ap (λ fs. taken ++ fs) (sym a.frames) in
    subst (λ (bs : List ℕ). Divides bs (taken ++ now.frames) now.rest) (sym e) (subst (λ (fs : List Frame). Divides (before ++ piece) fs now.rest) f d)
reached bytes taken now (stream.took _ first earlier _ was _ r t e) =
    let d : Divides bytes (earlier ++ was.frames) was.rest = reached bytes earlier was r in
    let f : earlier ++ was.frames ≡ taken ++ now.frames =
    ap (λ fs. earlier ++ fs) t.frames ∙ (sym (append_assoc earlier (first ∷ []) now.frames) ∙ ap (λ fs. fs ++ now.frames) (sym e)) in
    subst (λ (end : List ℕ). Divides bytes (taken ++ now.frames) end) (sym t.rest) (subst (λ (fs : List Frame). Divides bytes fs was.rest) f d)

pub first_taken : (bytes : List ℕ) (frame : Frame) (before after : Stream) → Takes frame before after → Holds before bytes → BeginsWithFrame bytes frame × Holds after (behind_frame bytes)
first_taken bytes frame before after t (stream.none _ _ _ r f e) = absurd (let q : [] ≡ frame ∷ after.frames = sym f ∙ t.frames in cc)
first_taken bytes frame before after t (stream.frame _ x xs _ _ b d f) =
    let q : x ∷ xs ≡ frame ∷ after.frames = sym f ∙ t.frames in
    let h : x ≡ frame = cc q in
    let k : xs ≡ after.frames = cc q in (
      subst (λ (y : Frame). BeginsWithFrame bytes y) h b,
      subst (λ (end : List ℕ). Divides (behind_frame bytes) after.frames end) (sym t.rest) (subst (λ (ys : List Frame). Divides (behind_frame bytes) ys before.rest) k d),
    )

pub none_taken : (bytes : List ℕ) (now : Stream) → now.frames ≡ [] → Holds now bytes → IsRest bytes
none_taken bytes now n (stream.none _ _ _ r f e) = r
none_taken bytes now n (stream.frame _ x xs _ _ b d f) = absurd (let q : x ∷ xs ≡ [] = sym f ∙ n in cc)

pub short_rest : (rest : List ℕ) → IsUnfinished rest → length rest ≤ 1048583
short_rest rest (layout.nothing z) = omega arith
short_rest rest (layout.head p s v) = omega arith
short_rest rest (layout.blob h s) = let m : blob_length_in rest ≤ MOST_BLOB = h.taken.most in omega arith

pub fed : (bytes piece : List ℕ) (before after : Stream) → Appends piece before after → Holds before bytes → Holds after (bytes ++ piece)
fed bytes piece before after a h =
    subst (λ (fs : List Frame). Divides (bytes ++ piece) fs after.rest) (sym a.frames) (divides_more bytes piece before.frames a.found before.rest after.rest h a.divides)
