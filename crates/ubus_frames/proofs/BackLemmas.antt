-- What is written spells the frame.
use Rattle.std.proofs.Common.{ℕ, ◌≡◌, ◌+◌, ◌*◌, ◌/◌, ◌%◌, ◌^◌, ◌<◌, ◌≤◌, Bool, true, false, List, [], ◌∷◌, ◌++◌, length, take, drop, Option, Some, None, arith, lit<, refl, sym, ap, subst, ◌∙◌, append_assoc, length-append}
use Rattle.std.specs.Int.{w8, w16, w32, to_be_bytes, from_be_bytes}
use Rattle.std.proofs.lemmas.List.{take_all}
use Rattle.std.proofs.lemmas.Nat.{from_be_bytes-to_be_bytes_2, from_be_bytes-to_be_bytes_4}
use Rattle.std.proofs.Math.Seq.{take-append_seam, drop-append_seam}
use Rattle.blob_codec.specs.declared.blob.TheConstants.{MOST_LEVELS}
use Rattle.blob_codec.specs.declared.blob.Attr.{Attr}
use Rattle.blob_codec.specs.Attribute.{padded, word_in, flag_in, type_in, length_in, behind}
use Rattle.blob_codec.specs.Limits.{FitsBlob, HasNoNul}
use Rattle.blob_codec.specs.Written.{padding, written as blob_bytes}
use Rattle.blob_codec.proofs.SpellingLemmas.{ends, without_nul, spelled}
use Rattle.ubus_frames.specs.declared.frame.TheConstants.{MOST_BLOB}
use Rattle.ubus_frames.specs.declared.frame.Frame.{Frame}
use Rattle.ubus_frames.specs.declared.value.Kind.{Kind}
use Rattle.ubus_frames.specs.declared.value.Kind.TheVariants.{OneNumber, OneText, AttrList, OneByte, NumberList}
use Rattle.ubus_frames.specs.declared.value.Value.{Value}
use Rattle.ubus_frames.specs.declared.value.Value.TheVariants.{Number, Words, Attrs, Truth, Numbers}
use Rattle.ubus_frames.specs.Field.{IsWhole, data_in}
use Rattle.ubus_frames.specs.Frame.{bare, version_in, bare_in, blob_in, blob_length_in, fields_in}
use Rattle.ubus_frames.specs.Layout as layout
use Rattle.ubus_frames.specs.Layout.{Puts, Changes, MakesOf, BeginsWithFrame, SpellsFrame, kind_of_word}
use Rattle.ubus_frames.specs.Numbers as list
use Rattle.ubus_frames.specs.Numbers.{IsNumber, SpellsNumbers}
use Rattle.ubus_frames.specs.Value as value
use Rattle.ubus_frames.specs.Value.{IsValue, kind_of, put}
use Rattle.ubus_frames.specs.Written.{AllWords, FitsFrame, IfThere, IsTyped, number_bytes, numbers_bytes, text_bytes, truth_bytes, where_some, written_field, written_fields, written_frame}
use Rattle.ubus_frames.proofs.FieldLemmas.{padded_least}
use Rattle.ubus_frames.proofs.WriteLemmas.{length-written_field, part_room, part_below}

front_is : (n : ℕ) (xs ys : List ℕ) → n ≡ length xs → take n (xs ++ ys) ≡ xs
front_is n xs ys e = ap (λ k. take k (xs ++ ys)) e ∙ take-append_seam xs ys

back_is : (n : ℕ) (xs ys : List ℕ) → n ≡ length xs → drop n (xs ++ ys) ≡ ys
back_is n xs ys e = ap (λ k. drop k (xs ++ ys)) e ∙ drop-append_seam xs ys

-- an attribute in front of others, taken apart
module _ (id : ℕ) (bytes rest : List ℕ) (known : id < 128) (short : length bytes + 4 < 2 ^ 24) where
  whole : List ℕ
  whole = written_field id bytes ++ rest

  word_is : word_in whole ≡ id * 2 ^ 24 + (4 + length bytes)
  unfolding whole written_field word_in
  word_is = from_be_bytes-to_be_bytes_4 (id * 2 ^ 24 + (4 + length bytes)) (omega arith)

  flag_is : flag_in whole ≡ 0
  unfolding flag_in
  flag_is = ap (λ w. w / 2 ^ 31) word_is ∙ omega arith

  type_is : type_in whole ≡ id
  unfolding type_in
  type_is = ap (λ w. w / 2 ^ 24 % 128) word_is ∙ omega arith

  length_is : length_in whole ≡ 4 + length bytes
  unfolding length_in
  length_is = ap (λ w. w % 2 ^ 24) word_is ∙ omega arith

  data_is : data_in whole ≡ bytes
  unfolding data_in whole written_field
  data_is =
      let word = to_be_bytes w32 (id * 2 ^ 24 + (4 + length bytes)) in
      let pad = padding (4 + length bytes) in
      let parts : (word ++ (bytes ++ pad)) ++ rest ≡ (word ++ bytes) ++ (pad ++ rest) =
      ap (λ xs. xs ++ rest) (sym (append_assoc word bytes pad)) ∙ append_assoc (word ++ bytes) pad rest in
      let n : length_in ((word ++ (bytes ++ pad)) ++ rest) ≡ 4 + length bytes = length_is in
      ap (λ k. drop 4 (take k ((word ++ (bytes ++ pad)) ++ rest))) n
      ∙ (ap (λ xs. drop 4 (take (4 + length bytes) xs)) parts ∙ ap (drop 4) (front_is (4 + length bytes) (word ++ bytes) (pad ++ rest) (sym (length-append word bytes))))

  behind_is : behind whole ≡ rest
  unfolding behind whole
  behind_is = back_is (padded (length_in (written_field id bytes ++ rest))) (written_field id bytes) rest (ap padded length_is ∙ sym (length-written_field id bytes))

  whole_is : IsWhole whole
  unfolding whole
  whole_is =
      let l : length (written_field id bytes ++ rest) ≡ length (written_field id bytes) + length rest = length-append (written_field id bytes) rest in
      let p : padded (length_in (written_field id bytes ++ rest)) ≡ padded (4 + length bytes) = ap padded length_is in
      record {
        word = omega (arith, length-written_field id bytes, padded_least (4 + length bytes));
        room = omega (arith, length-written_field id bytes, padded_least (4 + length bytes));
        least = omega (arith, length_is);
      }

pub field_step : (id : ℕ) (bytes rest : List ℕ) (kind : Kind) (v : Value) (before between after : Frame) → id < 128 → length bytes + 4 < 2 ^ 24 → kind_of id ≡ Some kind
    → IsValue kind bytes v → between ≡ put id v before → MakesOf rest between after → MakesOf (written_field id bytes ++ rest) before after
unfolding whole
field_step id bytes rest kind v before between after k s n is e m =
    let f = flag_is id bytes rest k s in
    let t = type_is id bytes rest k s in
    layout.field (written_field id bytes ++ rest) before between after
    (record {
      whole = whole_is id bytes rest k s;
      puts = layout.known kind v (ap (λ g. kind_of_word g (type_in (written_field id bytes ++ rest))) f ∙ (ap (kind_of_word 0) t ∙ n))
          (subst (λ (bs : List ℕ). IsValue kind bs v) (sym (data_is id bytes rest k s)) is) (e ∙ ap (λ i. put i v before) (sym t));
    })
    (subst (λ (bs : List ℕ). MakesOf bs between after) (sym (behind_is id bytes rest k s)) m)

four_bytes : (n : ℕ) → n < 2 ^ 32 → n ≡ from_be_bytes w32 (to_be_bytes w32 n)
four_bytes n h = sym (from_be_bytes-to_be_bytes_4 n h)

numbers_spelled : (ns : List ℕ) → AllWords ns → SpellsNumbers (numbers_bytes ns) ns
unfolding whole
numbers_spelled [] h = list.none [] [] refl refl
numbers_spelled (n ∷ ns) h =
    let rest = numbers_bytes ns in
    let bytes = number_bytes n in
    let k : 0 < 128 = omega arith in
    let s : length bytes + 4 < 2 ^ 24 = omega arith in
    let d = data_is 0 bytes rest k s in
    list.number (written_field 0 bytes ++ rest) ns (n ∷ ns)
    (record { whole = whole_is 0 bytes rest k s; flag = flag_is 0 bytes rest k s; id = type_is 0 bytes rest k s; size = ap length d })
    (subst (λ (bs : List ℕ). SpellsNumbers bs ns) (sym (behind_is 0 bytes rest k s)) (numbers_spelled ns h.1))
    (ap (λ m. m ∷ ns) (four_bytes n h.0 ∙ ap (from_be_bytes w32) (sym d)))

-- a part, where it is there, makes the next frame
number_part : (id : ℕ) (o : Option ℕ) (rest : List ℕ) (before between after : Frame) → id < 128 → kind_of id ≡ Some OneNumber → IfThere (λ n. n < 2 ^ 32) o
    → (o ≡ None → between ≡ before) → ((n : ℕ) → o ≡ Some n → between ≡ put id (Number n) before) → MakesOf rest between after → MakesOf (where_some number_bytes id o ++ rest) before after
number_part id None rest before between after k n h none some m = subst (λ (b : Frame). MakesOf rest b after) (none refl) m
number_part id (Some x) rest before between after k n h none some m =
    field_step id (number_bytes x) rest OneNumber (Number x) before between after k (omega arith) n (value.number refl refl (ap Number (four_bytes x h))) (some x refl) m

truth_is : (b : Bool) → IsValue OneByte (truth_bytes b) (Truth b)
truth_is true = value.byte refl refl refl
truth_is false = value.byte refl refl refl

truth_short : (b : Bool) → length (truth_bytes b) + 4 < 2 ^ 24
truth_short true = omega arith
truth_short false = omega arith

truth_part : (id : ℕ) (o : Option Bool) (rest : List ℕ) (before between after : Frame) → id < 128 → kind_of id ≡ Some OneByte
    → (o ≡ None → between ≡ before) → ((b : Bool) → o ≡ Some b → between ≡ put id (Truth b) before) → MakesOf rest between after → MakesOf (where_some truth_bytes id o ++ rest) before after
truth_part id None rest before between after k n none some m = subst (λ (b : Frame). MakesOf rest b after) (none refl) m
truth_part id (Some x) rest before between after k n none some m =
    field_step id (truth_bytes x) rest OneByte (Truth x) before between after k (truth_short x) n (truth_is x) (some x refl) m

text_part : (id : ℕ) (o : Option (List ℕ)) (rest : List ℕ) (before between after : Frame) → id < 128 → kind_of id ≡ Some OneText → IfThere HasNoNul o
    → length (where_some text_bytes id o) < 2 ^ 24 → (o ≡ None → between ≡ before) → ((t : List ℕ) → o ≡ Some t → between ≡ put id (Words t) before) → MakesOf rest between after
    → MakesOf (where_some text_bytes id o ++ rest) before after
text_part id None rest before between after k n h r none some m = subst (λ (b : Frame). MakesOf rest b after) (none refl) m
text_part id (Some x) rest before between after k n h r none some m =
    field_step id (text_bytes x) rest OneText (Words x) before between after k (part_room text_bytes id (2 ^ 24) (Some x) x (text_bytes x) refl r refl) n
    (value.text refl (ends x h) (ap Words (sym (without_nul x)))) (some x refl) m

attrs_part : (id : ℕ) (o : Option (List Attr)) (rest : List ℕ) (before between after : Frame) → id < 128 → kind_of id ≡ Some AttrList → IfThere FitsBlob o
    → length (where_some blob_bytes id o) < 2 ^ 24 → (o ≡ None → between ≡ before) → ((t : List Attr) → o ≡ Some t → between ≡ put id (Attrs t) before) → MakesOf rest between after
    → MakesOf (where_some blob_bytes id o ++ rest) before after
attrs_part id None rest before between after k n h r none some m = subst (λ (b : Frame). MakesOf rest b after) (none refl) m
attrs_part id (Some x) rest before between after k n h r none some m =
    field_step id (blob_bytes x) rest AttrList (Attrs x) before between after k (part_room blob_bytes id (2 ^ 24) (Some x) x (blob_bytes x) refl r refl) n
    (value.attrs x refl (spelled MOST_LEVELS x h) refl) (some x refl) m

list_part : (id : ℕ) (o : Option (List ℕ)) (rest : List ℕ) (before between after : Frame) → id < 128 → kind_of id ≡ Some NumberList → IfThere AllWords o
    → length (where_some numbers_bytes id o) < 2 ^ 24 → (o ≡ None → between ≡ before) → ((t : List ℕ) → o ≡ Some t → between ≡ put id (Numbers t) before) → MakesOf rest between after
    → MakesOf (where_some numbers_bytes id o ++ rest) before after
list_part id None rest before between after k n h r none some m = subst (λ (b : Frame). MakesOf rest b after) (none refl) m
list_part id (Some x) rest before between after k n h r none some m =
    field_step id (numbers_bytes x) rest NumberList (Numbers x) before between after k (part_room numbers_bytes id (2 ^ 24) (Some x) x (numbers_bytes x) refl r refl) n
    (value.numbers x refl (numbers_spelled x h) refl) (some x refl) m

made : (frame : Frame) → FitsFrame frame → IsTyped frame → MakesOf (written_fields frame) (bare frame.kind frame.seq frame.peer) frame
made frame f t =
    let f0 : Frame = bare frame.kind frame.seq frame.peer in
    let f1 : Frame = record f0 { status = frame.status } in
    let f2 : Frame = record f1 { path = frame.path } in
    let f3 : Frame = record f2 { id = frame.id } in
    let f4 : Frame = record f3 { method = frame.method } in
    let f5 : Frame = record f4 { objtype = frame.objtype } in
    let f6 : Frame = record f5 { signature = frame.signature } in
    let f7 : Frame = record f6 { payload = frame.payload } in
    let f8 : Frame = record f7 { target = frame.target } in
    let f9 : Frame = record f8 { active = frame.active } in
    let f10 : Frame = record f9 { no_reply = frame.no_reply } in
    let f11 : Frame = record f10 { subscribers = frame.subscribers } in
    let f12 : Frame = record f11 { user = frame.user } in
    number_part 1 frame.status _ f0 f1 frame (lit< tt) refl t.status (λ e. ap (λ x. record f0 { status = x }) e) (λ n e. ap (λ x. record f0 { status = x }) e)
    (text_part 2 frame.path _ f1 f2 frame (lit< tt) refl f.parts.path (part_below frame 1 _ f refl) (λ e. ap (λ x. record f1 { path = x }) e) (λ n e. ap (λ x. record f1 { path = x }) e)
    (number_part 3 frame.id _ f2 f3 frame (lit< tt) refl t.id (λ e. ap (λ x. record f2 { id = x }) e) (λ n e. ap (λ x. record f2 { id = x }) e)
    (text_part 4 frame.method _ f3 f4 frame (lit< tt) refl f.parts.method (part_below frame 3 _ f refl) (λ e. ap (λ x. record f3 { method = x }) e) (λ n e. ap (λ x. record f3 { method = x }) e)
    (number_part 5 frame.objtype _ f4 f5 frame (lit< tt) refl t.objtype (λ e. ap (λ x. record f4 { objtype = x }) e) (λ n e. ap (λ x. record f4 { objtype = x }) e)
    (attrs_part 6 frame.signature _ f5 f6 frame (lit< tt) refl f.parts.signature (part_below frame 5 _ f refl) (λ e. ap (λ x. record f5 { signature = x }) e) (λ n e. ap (λ x. record f5 { signature = x }) e)
    (attrs_part 7 frame.payload _ f6 f7 frame (lit< tt) refl f.parts.payload (part_below frame 6 _ f refl) (λ e. ap (λ x. record f6 { payload = x }) e) (λ n e. ap (λ x. record f6 { payload = x }) e)
    (number_part 8 frame.target _ f7 f8 frame (lit< tt) refl t.target (λ e. ap (λ x. record f7 { target = x }) e) (λ n e. ap (λ x. record f7 { target = x }) e)
    (truth_part 9 frame.active _ f8 f9 frame (lit< tt) refl (λ e. ap (λ x. record f8 { active = x }) e) (λ n e. ap (λ x. record f8 { active = x }) e)
    (truth_part 10 frame.no_reply _ f9 f10 frame (lit< tt) refl (λ e. ap (λ x. record f9 { no_reply = x }) e) (λ n e. ap (λ x. record f9 { no_reply = x }) e)
    (list_part 11 frame.subscribers _ f10 f11 frame (lit< tt) refl t.subscribers (part_below frame 10 _ f refl) (λ e. ap (λ x. record f10 { subscribers = x }) e)
    (λ n e. ap (λ x. record f10 { subscribers = x }) e)
    (text_part 12 frame.user _ f11 f12 frame (lit< tt) refl f.parts.user (part_below frame 11 _ f refl) (λ e. ap (λ x. record f11 { user = x }) e) (λ n e. ap (λ x. record f11 { user = x }) e)
    (text_part 13 frame.group [] f12 frame frame (lit< tt) refl f.parts.group (part_below frame 12 _ f refl) (λ e. ap (λ x. record f12 { group = x }) e) (λ n e. ap (λ x. record f12 { group = x }) e)
    (layout.none [] frame frame refl refl)))))))))))))

one_byte : (n : ℕ) → n < 2 ^ 8 → from_be_bytes w8 (n ∷ []) ≡ n
one_byte n h = omega arith

module _ (frame : Frame) (fits : FitsFrame frame) (typed : IsTyped frame) where
  word : ℕ
  word = 4 + length (written_fields frame)

  most : word ≤ MOST_BLOB
  unfolding word
  most = fits.size

  blob_word : word_in (blob_in (written_frame frame)) ≡ word
  unfolding word_in blob_in written_frame word
  blob_word = from_be_bytes-to_be_bytes_4 (4 + length (written_fields frame)) (let m : 4 + length (written_fields frame) ≤ MOST_BLOB = fits.size in omega arith)

  blob_flag : flag_in (blob_in (written_frame frame)) ≡ 0
  unfolding flag_in
  blob_flag = ap (λ w. w / 2 ^ 31) blob_word ∙ omega (arith, most)

  blob_type : type_in (blob_in (written_frame frame)) ≡ 0
  unfolding type_in
  blob_type = ap (λ w. w / 2 ^ 24 % 128) blob_word ∙ omega (arith, most)

  blob_length : blob_length_in (written_frame frame) ≡ word
  unfolding blob_length_in length_in
  blob_length = ap (λ w. w % 2 ^ 24) blob_word ∙ omega (arith, most)

  frame_length : length (written_frame frame) ≡ 12 + length (written_fields frame)
  unfolding written_frame
  frame_length = omega arith

  frame_version : version_in (written_frame frame) ≡ 0
  unfolding version_in written_frame
  frame_version = refl

  frame_bare : bare_in (written_frame frame) ≡ bare frame.kind frame.seq frame.peer
  unfolding bare_in written_frame
  frame_bare =
      ap (λ k. bare k (from_be_bytes w16 (to_be_bytes w16 frame.seq)) (from_be_bytes w32 (to_be_bytes w32 frame.peer))) (one_byte frame.kind typed.kind)
      ∙ (ap (λ s. bare frame.kind s (from_be_bytes w32 (to_be_bytes w32 frame.peer))) (from_be_bytes-to_be_bytes_2 frame.seq typed.seq)
      ∙ ap (λ p. bare frame.kind frame.seq p) (from_be_bytes-to_be_bytes_4 frame.peer typed.peer))

  all_there : 8 + blob_length_in (written_frame frame) ≡ length (written_frame frame)
  unfolding word
  all_there = omega (arith, blob_length, frame_length)

  frame_behind : drop 12 (written_frame frame) ≡ written_fields frame
  unfolding written_frame
  frame_behind = refl

  frame_fields : fields_in (written_frame frame) ≡ written_fields frame
  unfolding fields_in
  frame_fields =
      ap (λ n. drop 12 (take n (written_frame frame))) all_there ∙ (ap (drop 12) (take_all (length (written_frame frame)) (written_frame frame) (omega arith)) ∙ frame_behind)

  pub frame_spelled : SpellsFrame (written_frame frame) frame
  unfolding word
  frame_spelled = record {
    begins = record {
      head = record {
        head = omega (arith, frame_length);
        version = frame_version;
        taken = record { least = omega (arith, blob_length); most = omega (arith, blob_length, most); plain = record { flag = blob_flag; id = blob_type } };
      };
      room = omega (arith, all_there);
      fields = subst (λ (b : Frame). MakesOf (fields_in (written_frame frame)) b frame) (sym frame_bare)
          (subst (λ (bs : List ℕ). MakesOf bs (bare frame.kind frame.seq frame.peer) frame) (sym frame_fields) (made frame fits typed));
    };
    all = all_there;
  }
