-- Bytes have one first fault at most, and a fault or a reading and not both.
use Rattle.std.proofs.Common.{ℕ, ◌≡◌, ◌≢◌, ◌+◌, ◌≤◌, Bool, true, false, nat_lt, List, length, Option, Some, None, arith, sym, ap, subst, ◌∙◌}
use Rattle.std.specs.Prelude.{◌||◌}
use Rattle.std.proofs.lemmas.Bool.Decides.{nat_tests}
use Rattle.blob_codec.specs.declared.blob.TheConstants.{MOST_LEVELS}
use Rattle.blob_codec.specs.declared.blob.Attr.{Attr}
use Rattle.blob_codec.specs.declared.blob_error.BlobError.{BlobError}
use Rattle.blob_codec.specs.declared.blob_error.BlobError.TheVariants.{BadLength, NoNul}
use Rattle.blob_codec.specs.Attribute.{padded, flag_in, type_in, length_in, behind, is_terminated}
use Rattle.blob_codec.specs.Blob.{SpellsBlob}
use Rattle.blob_codec.specs.Fault.{first_held, is_cut}
use Rattle.blob_codec.proofs.LawLemmas as blob
use Rattle.ubus_frames.specs.declared.frame.TheConstants.{MOST_BLOB}
use Rattle.ubus_frames.specs.declared.frame.Frame.{Frame}
use Rattle.ubus_frames.specs.declared.frame_error.FrameError.{FrameError}
use Rattle.ubus_frames.specs.declared.frame_error.FrameError.TheVariants.{BadBlob}
use Rattle.ubus_frames.specs.declared.value.Kind.{Kind}
use Rattle.ubus_frames.specs.declared.value.Kind.TheVariants.{OneNumber, OneText, AttrList, OneByte, NumberList}
use Rattle.ubus_frames.specs.declared.value.Value.{Value}
use Rattle.ubus_frames.specs.Fault as fault
use Rattle.ubus_frames.specs.Fault.{IsMovedFault, IsValueFault, IsKnownFault, IsFieldsFault, IsWordFault, IsHeadFault, IsFrameFault, moved, moved_fault, known_fault, too_long, bad_length, bad_type}
use Rattle.ubus_frames.specs.Field.{IsWhole, data_in, word_tests}
use Rattle.ubus_frames.specs.Frame.{HasHead, IsTaken, bare_in, blob_length_in, fields_in}
use Rattle.ubus_frames.specs.Layout as layout
use Rattle.ubus_frames.specs.Layout.{Puts, Changes, MakesOf, BeginsWithFrame, IsUnfinished, kind_of_word}
use Rattle.ubus_frames.specs.Numbers as list
use Rattle.ubus_frames.specs.Numbers.{IsNumber, SpellsNumbers, IsNumberFault, IsNumbersFault}
use Rattle.ubus_frames.specs.Value as value
use Rattle.ubus_frames.specs.Value.{IsValue}

or_false : (a b : Bool) → a ≡ false → b ≡ false → (a || b) ≡ false
or_false a b h g = ap (λ x. x || b) h ∙ g

lt_false : (a b : ℕ) → b ≤ a → nat_lt a b ≡ false
lt_false a b h = grind (arith, nat_tests)

-- the word of a whole attribute passes its tests
whole_word : (place : ℕ) (bytes : List ℕ) → IsWhole bytes → first_held (word_tests place bytes) ≡ None
whole_word place bytes w =
    let c : is_cut bytes ≡ false = or_false (nat_lt (length bytes) 4) (nat_lt (length bytes) (padded (length_in bytes))) (lt_false _ _ w.word) (lt_false _ _ w.room) in
    let s : nat_lt (length_in bytes) 4 ≡ false = lt_false _ _ w.least in
    simp (c, s)

word_clash : (place : ℕ) (bytes : List ℕ) (error : BlobError) → IsWhole bytes → first_held (word_tests place bytes) ≡ Some error → ⊥
word_clash place bytes error w h = absurd (let q : None ≡ Some error = sym (whole_word place bytes w) ∙ h in cc)

one_word : (place : ℕ) (bytes : List ℕ) (e d : BlobError) → first_held (word_tests place bytes) ≡ Some e → first_held (word_tests place bytes) ≡ Some d → d ≡ e
one_word place bytes e d h g = let s : Some d ≡ Some e = sym g ∙ h in cc

number_clash : (place : ℕ) (bytes : List ℕ) (error : BlobError) → IsNumberFault place bytes error → IsNumber bytes → ⊥
number_clash place bytes error (list.word h) is = word_clash place bytes error is.whole h
number_clash place bytes error (list.flag w n e) is = n is.flag
number_clash place bytes error (list.id w f n e) is = n is.id
number_clash place bytes error (list.size w f i n e) is = n is.size

one_number : (place : ℕ) (bytes : List ℕ) (e d : BlobError) → IsNumberFault place bytes e → IsNumberFault place bytes d → d ≡ e
one_number place bytes e d (list.word h) (list.word g) = one_word place bytes e d h g
one_number place bytes e d (list.word h) (list.flag w n q) = absurd (word_clash place bytes e w h)
one_number place bytes e d (list.word h) (list.id w f n q) = absurd (word_clash place bytes e w h)
one_number place bytes e d (list.word h) (list.size w f i n q) = absurd (word_clash place bytes e w h)
one_number place bytes e d (list.flag w n q) (list.word g) = absurd (word_clash place bytes d w g)
one_number place bytes e d (list.flag w n q) (list.flag x m p) = p ∙ sym q
one_number place bytes e d (list.flag w n q) (list.id x g m p) = p ∙ sym q
one_number place bytes e d (list.flag w n q) (list.size x g j m p) = absurd (n g)
one_number place bytes e d (list.id w f n q) (list.word g) = absurd (word_clash place bytes d w g)
one_number place bytes e d (list.id w f n q) (list.flag x m p) = p ∙ sym q
one_number place bytes e d (list.id w f n q) (list.id x g m p) = p ∙ sym q
one_number place bytes e d (list.id w f n q) (list.size x g j m p) = absurd (n j)
one_number place bytes e d (list.size w f i n q) (list.word g) = absurd (word_clash place bytes d w g)
one_number place bytes e d (list.size w f i n q) (list.flag x m p) = absurd (m f)
one_number place bytes e d (list.size w f i n q) (list.id x g m p) = absurd (m i)
one_number place bytes e d (list.size w f i n q) (list.size x g j m p) = p ∙ sym q

numbers_clash : (place : ℕ) (bytes ns : List ℕ) (error : BlobError) → IsNumbersFault place bytes error → SpellsNumbers bytes ns → ⊥
numbers_clash place bytes ns error (list.front _ _ _ h f) (list.none _ _ z e) = absurd (omega arith)
numbers_clash place bytes ns error (list.front _ _ _ h f) (list.number _ os _ is t e) = number_clash place bytes error f is
numbers_clash place bytes ns error (list.later _ _ _ is f) (list.none _ _ z e) = absurd (let k : 4 ≤ length bytes = is.whole.word in omega arith)
numbers_clash place bytes ns error (list.later _ _ _ is f) (list.number _ os _ js t e) = numbers_clash (place + padded (length_in bytes)) (behind bytes) os error f t

one_numbers : (place : ℕ) (bytes : List ℕ) (e d : BlobError) → IsNumbersFault place bytes e → IsNumbersFault place bytes d → d ≡ e
one_numbers place bytes e d (list.front _ _ _ h f) (list.front _ _ _ g k) = one_number place bytes e d f k
one_numbers place bytes e d (list.front _ _ _ h f) (list.later _ _ _ is k) = absurd (number_clash place bytes e f is)
one_numbers place bytes e d (list.later _ _ _ is f) (list.front _ _ _ g k) = absurd (number_clash place bytes d k is)
one_numbers place bytes e d (list.later _ _ _ is f) (list.later _ _ _ js k) = one_numbers (place + padded (length_in bytes)) (behind bytes) e d f k

-- what a value of each kind has, and what each fault is
IsRight : Kind → List ℕ → Type 0
IsRight OneNumber bytes = length bytes ≡ 4
IsRight OneText bytes = is_terminated bytes ≡ true
IsRight AttrList bytes = (attrs : List Attr) × SpellsBlob bytes attrs
IsRight OneByte bytes = length bytes ≡ 1
IsRight NumberList bytes = (ns : List ℕ) × SpellsNumbers bytes ns

IsWrong : ℕ → Kind → List ℕ → BlobError → Type 0
IsWrong place OneNumber bytes error = (length bytes ≢ 4) × (error ≡ BadLength place)
IsWrong place OneText bytes error = (is_terminated bytes ≡ false) × (error ≡ NoNul place)
IsWrong place AttrList bytes error = IsMovedFault (place + 4) bytes error
IsWrong place OneByte bytes error = (length bytes ≢ 1) × (error ≡ BadLength place)
IsWrong place NumberList bytes error = IsNumbersFault (place + 4) bytes error

right : (kind : Kind) (bytes : List ℕ) (v : Value) → IsValue kind bytes v → IsRight kind bytes
unfolding IsRight
right kind bytes v (value.number k l e) = subst (λ (x : Kind). IsRight x bytes) (sym k) l
right kind bytes v (value.text k l e) = subst (λ (x : Kind). IsRight x bytes) (sym k) l
right kind bytes v (value.attrs xs k s e) = subst (λ (x : Kind). IsRight x bytes) (sym k) (xs, s)
right kind bytes v (value.byte k l e) = subst (λ (x : Kind). IsRight x bytes) (sym k) l
right kind bytes v (value.numbers ns k s e) = subst (λ (x : Kind). IsRight x bytes) (sym k) (ns, s)

wrong : (place : ℕ) (kind : Kind) (bytes : List ℕ) (error : BlobError) → IsValueFault place kind bytes error → IsWrong place kind bytes error
unfolding IsWrong
wrong place kind bytes error (fault.number k l e) = subst (λ (x : Kind). IsWrong place x bytes error) (sym k) (l, e)
wrong place kind bytes error (fault.text k l e) = subst (λ (x : Kind). IsWrong place x bytes error) (sym k) (l, e)
wrong place kind bytes error (fault.attrs k f) = subst (λ (x : Kind). IsWrong place x bytes error) (sym k) f
wrong place kind bytes error (fault.byte k l e) = subst (λ (x : Kind). IsWrong place x bytes error) (sym k) (l, e)
wrong place kind bytes error (fault.numbers k f) = subst (λ (x : Kind). IsWrong place x bytes error) (sym k) f

moved_clash : (place : ℕ) (bytes : List ℕ) (attrs : List Attr) (error : BlobError) → IsMovedFault place bytes error → SpellsBlob bytes attrs → ⊥
moved_clash place bytes attrs error (moved_fault inner f e) s = blob.not_both MOST_LEVELS 0 bytes inner attrs f s

one_moved : (place : ℕ) (bytes : List ℕ) (e d : BlobError) → IsMovedFault place bytes e → IsMovedFault place bytes d → d ≡ e
one_moved place bytes e d (moved_fault i f q) (moved_fault j g p) = p ∙ (ap (moved place) (blob.one_first MOST_LEVELS 0 bytes i j f g) ∙ sym q)

right_clash : (place : ℕ) (kind : Kind) (bytes : List ℕ) (error : BlobError) → IsWrong place kind bytes error → IsRight kind bytes → ⊥
unfolding IsRight IsWrong
right_clash place OneNumber bytes error w r = w.0 r
right_clash place OneText bytes error w r = absurd (let q : false ≡ true = sym w.0 ∙ r in cc)
right_clash place AttrList bytes error w r = moved_clash (place + 4) bytes r.0 error w r.1
right_clash place OneByte bytes error w r = w.0 r
right_clash place NumberList bytes error w r = numbers_clash (place + 4) bytes r.0 error w r.1

one_wrong : (place : ℕ) (kind : Kind) (bytes : List ℕ) (e d : BlobError) → IsWrong place kind bytes e → IsWrong place kind bytes d → d ≡ e
unfolding IsWrong
one_wrong place OneNumber bytes e d w x = x.1 ∙ sym w.1
one_wrong place OneText bytes e d w x = x.1 ∙ sym w.1
one_wrong place AttrList bytes e d w x = one_moved (place + 4) bytes e d w x
one_wrong place OneByte bytes e d w x = x.1 ∙ sym w.1
one_wrong place NumberList bytes e d w x = one_numbers (place + 4) bytes e d w x

same_kind : (o : Option Kind) (k j : Kind) → o ≡ Some k → o ≡ Some j → k ≡ j
same_kind o k j h g = let s : Some k ≡ Some j = sym h ∙ g in cc

known_clash : (place flag id : ℕ) (bytes : List ℕ) (error : BlobError) (before after : Frame) → IsKnownFault place flag id bytes error → Puts flag id bytes before after → ⊥
known_clash place flag id bytes error before after (known_fault k h f) (layout.passed n e) = absurd (let q : None ≡ Some k = sym n ∙ h in cc)
known_clash place flag id bytes error before after (known_fault k h f) (layout.known j v g is e) =
    right_clash place k bytes error (wrong place k bytes error f) (subst (λ (x : Kind). IsRight x bytes) (same_kind (kind_of_word flag id) j k g h) (right j bytes v is))

one_known : (place flag id : ℕ) (bytes : List ℕ) (e d : BlobError) → IsKnownFault place flag id bytes e → IsKnownFault place flag id bytes d → d ≡ e
one_known place flag id bytes e d (known_fault k h f) (known_fault j g i) =
    one_wrong place k bytes e d (wrong place k bytes e f) (subst (λ (x : Kind). IsWrong place x bytes d) (same_kind (kind_of_word flag id) j k g h) (wrong place j bytes d i))

pub fields_clash : (place : ℕ) (bytes : List ℕ) (error : BlobError) (before after : Frame) → IsFieldsFault place bytes error → MakesOf bytes before after → ⊥
fields_clash place bytes error before after (fault.word _ _ _ h f) (layout.none _ _ _ z e) = absurd (omega arith)
fields_clash place bytes error before after (fault.word _ _ _ h f) (layout.field _ _ x _ ch t) = word_clash place bytes error ch.whole f
fields_clash place bytes error before after (fault.value _ _ _ w f) (layout.none _ _ _ z e) = absurd (let k : 4 ≤ length bytes = w.word in omega arith)
fields_clash place bytes error before after (fault.value _ _ _ w f) (layout.field _ _ x _ ch t) =
    known_clash place (flag_in bytes) (type_in bytes) (data_in bytes) error before x f ch.puts
fields_clash place bytes error before after (fault.later _ _ _ x y dh f) (layout.none _ _ _ z e) = absurd (let k : 4 ≤ length bytes = dh.whole.word in omega arith)
fields_clash place bytes error before after (fault.later _ _ _ x y dh f) (layout.field _ _ z _ ch t) =
    fields_clash (place + padded (length_in bytes)) (behind bytes) error z after f t

one_fields : (place : ℕ) (bytes : List ℕ) (e d : BlobError) → IsFieldsFault place bytes e → IsFieldsFault place bytes d → d ≡ e
one_fields place bytes e d (fault.word _ _ _ h f) (fault.word _ _ _ k g) = one_word place bytes e d f g
one_fields place bytes e d (fault.word _ _ _ h f) (fault.value _ _ _ w g) = absurd (word_clash place bytes e w f)
one_fields place bytes e d (fault.word _ _ _ h f) (fault.later _ _ _ x y ch g) = absurd (word_clash place bytes e ch.whole f)
one_fields place bytes e d (fault.value _ _ _ w f) (fault.word _ _ _ k g) = absurd (word_clash place bytes d w g)
one_fields place bytes e d (fault.value _ _ _ w f) (fault.value _ _ _ v g) = one_known place (flag_in bytes) (type_in bytes) (data_in bytes) e d f g
one_fields place bytes e d (fault.value _ _ _ w f) (fault.later _ _ _ x y ch g) =
    absurd (known_clash place (flag_in bytes) (type_in bytes) (data_in bytes) e x y f ch.puts)
one_fields place bytes e d (fault.later _ _ _ x y ch f) (fault.word _ _ _ k g) = absurd (word_clash place bytes d ch.whole g)
one_fields place bytes e d (fault.later _ _ _ x y ch f) (fault.value _ _ _ v g) =
    absurd (known_clash place (flag_in bytes) (type_in bytes) (data_in bytes) d x y g ch.puts)
one_fields place bytes e d (fault.later _ _ _ x y ch f) (fault.later _ _ _ z u dh g) = one_fields (place + padded (length_in bytes)) (behind bytes) e d f g

word_fault_clash : (bytes : List ℕ) (error : FrameError) → IsWordFault bytes error → IsTaken bytes → ⊥
word_fault_clash bytes error (too_long h e) t = absurd (let k : blob_length_in bytes ≤ MOST_BLOB = t.most in omega arith)
word_fault_clash bytes error (bad_length h e) t = absurd (let k : 4 ≤ blob_length_in bytes = t.least in omega arith)
word_fault_clash bytes error (bad_type h g n e) t = n t.plain

one_word_fault : (bytes : List ℕ) (e d : FrameError) → IsWordFault bytes e → IsWordFault bytes d → d ≡ e
one_word_fault bytes e d (too_long h q) (too_long g p) = p ∙ sym q
one_word_fault bytes e d (too_long h q) (bad_length g p) = absurd (omega arith)
one_word_fault bytes e d (too_long h q) (bad_type g k n p) = absurd (omega arith)
one_word_fault bytes e d (bad_length h q) (too_long g p) = absurd (omega arith)
one_word_fault bytes e d (bad_length h q) (bad_length g p) = p ∙ sym q
one_word_fault bytes e d (bad_length h q) (bad_type g k n p) = absurd (omega arith)
one_word_fault bytes e d (bad_type g k n q) (too_long h p) = absurd (omega arith)
one_word_fault bytes e d (bad_type g k n q) (bad_length h p) = absurd (omega arith)
one_word_fault bytes e d (bad_type g k n q) (bad_type h l m p) = p ∙ sym q

head_clash : (bytes : List ℕ) (error : FrameError) → IsHeadFault bytes error → HasHead bytes → ⊥
head_clash bytes error (fault.version l n e) h = n h.version
head_clash bytes error (fault.word l v f) h = word_fault_clash bytes error f h.taken

pub frame_clash : (bytes : List ℕ) (error : FrameError) (frame : Frame) → IsFrameFault bytes error → BeginsWithFrame bytes frame → ⊥
frame_clash bytes error frame (fault.head f) b = head_clash bytes error f b.head
frame_clash bytes error frame (fault.fields inner h r f e) b = fields_clash 12 (fields_in bytes) inner (bare_in bytes) frame f b.fields

pub unfinished_clash : (bytes : List ℕ) (error : FrameError) → IsFrameFault bytes error → IsUnfinished bytes → ⊥
unfinished_clash bytes error (fault.head (fault.version l n e)) (layout.nothing z) = absurd (omega arith)
unfinished_clash bytes error (fault.head (fault.version l n e)) (layout.head p s v) = n v
unfinished_clash bytes error (fault.head (fault.version l n e)) (layout.blob h s) = n h.version
unfinished_clash bytes error (fault.head (fault.word l v f)) (layout.nothing z) = absurd (omega arith)
unfinished_clash bytes error (fault.head (fault.word l v f)) (layout.head p s w) = absurd (omega arith)
unfinished_clash bytes error (fault.head (fault.word l v f)) (layout.blob h s) = word_fault_clash bytes error f h.taken
unfinished_clash bytes error (fault.fields inner h r f e) (layout.nothing z) = absurd (let k : 12 ≤ length bytes = h.head in omega arith)
unfinished_clash bytes error (fault.fields inner h r f e) (layout.head p s v) = absurd (let k : 12 ≤ length bytes = h.head in omega arith)
unfinished_clash bytes error (fault.fields inner h r f e) (layout.blob g s) = absurd (omega arith)

pub begun_clash : (bytes : List ℕ) (frame : Frame) → BeginsWithFrame bytes frame → IsUnfinished bytes → ⊥
begun_clash bytes frame b (layout.nothing z) = absurd (let k : 12 ≤ length bytes = b.head.head in omega arith)
begun_clash bytes frame b (layout.head p s v) = absurd (let k : 12 ≤ length bytes = b.head.head in omega arith)
begun_clash bytes frame b (layout.blob h s) = absurd (let k : 8 + blob_length_in bytes ≤ length bytes = b.room in omega arith)

one_head : (bytes : List ℕ) (e d : FrameError) → IsHeadFault bytes e → IsHeadFault bytes d → d ≡ e
one_head bytes e d (fault.version l n q) (fault.version k m p) = p ∙ sym q
one_head bytes e d (fault.version l n q) (fault.word k v f) = absurd (n v)
one_head bytes e d (fault.word l v f) (fault.version k m p) = absurd (m v)
one_head bytes e d (fault.word l v f) (fault.word k w g) = one_word_fault bytes e d f g

pub one_frame_fault : (bytes : List ℕ) (e d : FrameError) → IsFrameFault bytes e → IsFrameFault bytes d → d ≡ e
one_frame_fault bytes e d (fault.head f) (fault.head g) = one_head bytes e d f g
one_frame_fault bytes e d (fault.head f) (fault.fields inner h r g p) = absurd (head_clash bytes e f h)
one_frame_fault bytes e d (fault.fields inner h r f q) (fault.head g) = absurd (head_clash bytes d g h)
one_frame_fault bytes e d (fault.fields i h r f q) (fault.fields j k s g p) = p ∙ (ap BadBlob (one_fields 12 (fields_in bytes) i j f g) ∙ sym q)
