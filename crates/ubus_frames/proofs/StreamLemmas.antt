-- Bytes that others follow, and how a stream divides.
use Rattle.std.proofs.Common.{ℕ, zero, suc, ◌≡◌, ◌+◌, ◌-◌, ◌/◌, ◌%◌, ◌^◌, ◌<◌, ◌≤◌, List, [], ◌∷◌, ◌++◌, length, take, drop, Option, Some, None, MatchOption, arith, refl, sym, ap, subst, ◌∙◌, append_assoc, append-nil, length-append}
use Rattle.std.specs.Int.{w8, w16, w32, from_be_bytes}
use Rattle.std.proofs.lemmas.List.{length-drop, length-take-le, take-append-le, take-append-drop, drop-append-le}
use Rattle.blob_codec.specs.Attribute.{word_in, flag_in, type_in, length_in}
use Rattle.ubus_frames.specs.declared.feeder.Found.{Found}
use Rattle.ubus_frames.specs.declared.feeder.Front.{Front}
use Rattle.ubus_frames.specs.declared.frame.Frame.{Frame}
use Rattle.ubus_frames.specs.declared.frame.TheConstants.{MOST_BLOB}
use Rattle.ubus_frames.specs.declared.frame_error.FrameError.{FrameError}
use Rattle.ubus_frames.specs.declared.frame_error.FrameError.TheVariants.{Version, TooLong}
use Rattle.ubus_frames.specs.Fault as fault
use Rattle.ubus_frames.specs.Fault.{IsFieldsFault, IsFrameFault, IsHeadFault, IsWordFault, too_long, bad_length, bad_type}
use Rattle.ubus_frames.specs.Feeding.{HasFound, HasFront, Moves, PushesSoFar, StreamSoFar, IsFaultOf, no_fault, a_fault}
use Rattle.ubus_frames.specs.Frame.{HasHead, IsPlainBlob, bare, version_in, bare_in, blob_in, blob_length_in, fields_in}
use Rattle.ubus_frames.specs.Layout.{BeginsWithFrame, IsUnfinished, MakesOf, SpellsFrame}
use Rattle.ubus_frames.specs.Stream as stream
use Rattle.ubus_frames.specs.Stream.{Appends, IsRest, Divides, Refuses, Stream, behind_frame, unfinished, faulty}

slice_front : (a n : ℕ) (xs ys : List ℕ) → a + n ≤ length xs → take n (drop a (xs ++ ys)) ≡ take n (drop a xs)
slice_front a n xs ys h =
    let d : drop a (xs ++ ys) ≡ drop a xs ++ ys = drop-append-le a xs ys (omega arith) in
    let l : length (drop a xs) ≡ length xs - a = length-drop a xs in
    ap (take n) d ∙ take-append-le n (drop a xs) ys (omega arith)

-- what is read of bytes in front of others
version_front : (xs ys : List ℕ) → 1 ≤ length xs → version_in (xs ++ ys) ≡ version_in xs
unfolding version_in
version_front xs ys h = ap (from_be_bytes w8) (slice_front 0 1 xs ys h)

word_front : (xs ys : List ℕ) → 12 ≤ length xs → word_in (blob_in (xs ++ ys)) ≡ word_in (blob_in xs)
unfolding word_in blob_in
word_front xs ys h = ap (from_be_bytes w32) (slice_front 8 4 xs ys h)

flag_front : (xs ys : List ℕ) → 12 ≤ length xs → flag_in (blob_in (xs ++ ys)) ≡ flag_in (blob_in xs)
unfolding flag_in
flag_front xs ys h = ap (λ w. w / 2 ^ 31) (word_front xs ys h)

type_front : (xs ys : List ℕ) → 12 ≤ length xs → type_in (blob_in (xs ++ ys)) ≡ type_in (blob_in xs)
unfolding type_in
type_front xs ys h = ap (λ w. w / 2 ^ 24 % 128) (word_front xs ys h)

length_front : (xs ys : List ℕ) → 12 ≤ length xs → blob_length_in (xs ++ ys) ≡ blob_length_in xs
unfolding blob_length_in length_in
length_front xs ys h = ap (λ w. w % 2 ^ 24) (word_front xs ys h)

bare_front : (xs ys : List ℕ) → 12 ≤ length xs → bare_in (xs ++ ys) ≡ bare_in xs
unfolding bare_in
bare_front xs ys h =
    let k : take 1 (drop 1 (xs ++ ys)) ≡ take 1 (drop 1 xs) = slice_front 1 1 xs ys (omega arith) in
    let s : take 2 (drop 2 (xs ++ ys)) ≡ take 2 (drop 2 xs) = slice_front 2 2 xs ys (omega arith) in
    let p : take 4 (drop 4 (xs ++ ys)) ≡ take 4 (drop 4 xs) = slice_front 4 4 xs ys (omega arith) in
    ap (λ b. bare (from_be_bytes w8 b) (from_be_bytes w16 (take 2 (drop 2 (xs ++ ys)))) (from_be_bytes w32 (take 4 (drop 4 (xs ++ ys))))) k
    ∙ (ap (λ b. bare (from_be_bytes w8 (take 1 (drop 1 xs))) (from_be_bytes w16 b) (from_be_bytes w32 (take 4 (drop 4 (xs ++ ys))))) s
    ∙ ap (λ b. bare (from_be_bytes w8 (take 1 (drop 1 xs))) (from_be_bytes w16 (take 2 (drop 2 xs))) (from_be_bytes w32 b)) p)

fields_front : (xs ys : List ℕ) → 12 ≤ length xs → 8 + blob_length_in xs ≤ length xs → fields_in (xs ++ ys) ≡ fields_in xs
unfolding fields_in
fields_front xs ys h r =
    ap (λ n. drop 12 (take (8 + n) (xs ++ ys))) (length_front xs ys h) ∙ ap (drop 12) (take-append-le (8 + blob_length_in xs) xs ys r)

longer : (xs ys : List ℕ) → length xs ≤ length (xs ++ ys)
longer xs ys = omega (arith, length-append xs ys)

plain_front : (xs ys : List ℕ) → 12 ≤ length xs → IsPlainBlob xs → IsPlainBlob (xs ++ ys)
plain_front xs ys h p = record { flag = flag_front xs ys h ∙ p.flag; id = type_front xs ys h ∙ p.id }

plain_back : (xs ys : List ℕ) → 12 ≤ length xs → IsPlainBlob (xs ++ ys) → IsPlainBlob xs
plain_back xs ys h p = record { flag = sym (flag_front xs ys h) ∙ p.flag; id = sym (type_front xs ys h) ∙ p.id }

head_front : (xs ys : List ℕ) → HasHead xs → HasHead (xs ++ ys)
head_front xs ys h =
    let l : 4 ≤ blob_length_in xs = h.taken.least in
    let m : blob_length_in xs ≤ MOST_BLOB = h.taken.most in
    let t : 12 ≤ length xs = h.head in
    record {
      head = omega (arith, longer xs ys);
      version = version_front xs ys (omega arith) ∙ h.version;
      taken = record { least = omega (arith, length_front xs ys t); most = omega (arith, length_front xs ys t); plain = plain_front xs ys t h.taken.plain };
    }

head_back : (xs ys : List ℕ) → 12 ≤ length xs → HasHead (xs ++ ys) → HasHead xs
head_back xs ys t h =
    let l : 4 ≤ blob_length_in (xs ++ ys) = h.taken.least in
    let m : blob_length_in (xs ++ ys) ≤ MOST_BLOB = h.taken.most in
    record {
      head = t;
      version = sym (version_front xs ys (omega arith)) ∙ h.version;
      taken = record { least = omega (arith, length_front xs ys t); most = omega (arith, length_front xs ys t); plain = plain_back xs ys t h.taken.plain };
    }

pub begins_front : (xs ys : List ℕ) (frame : Frame) → BeginsWithFrame xs frame → BeginsWithFrame (xs ++ ys) frame
begins_front xs ys frame b =
    let t : 12 ≤ length xs = b.head.head in
    let r : 8 + blob_length_in xs ≤ length xs = b.room in
    record {
      head = head_front xs ys b.head;
      room = omega (arith, longer xs ys, length_front xs ys t);
      fields = subst (λ (s : Frame). MakesOf (fields_in (xs ++ ys)) s frame) (sym (bare_front xs ys t))
          (subst (λ (f : List ℕ). MakesOf f (bare_in xs) frame) (sym (fields_front xs ys t r)) b.fields);
    }

pub behind_front : (xs ys : List ℕ) (frame : Frame) → BeginsWithFrame xs frame → behind_frame (xs ++ ys) ≡ behind_frame xs ++ ys
unfolding behind_frame
behind_front xs ys frame b =
    ap (λ n. drop (8 + n) (xs ++ ys)) (length_front xs ys b.head.head) ∙ drop-append-le (8 + blob_length_in xs) xs ys b.room

word_fault_front : (xs ys : List ℕ) (error : FrameError) → 12 ≤ length xs → IsWordFault xs error → IsWordFault (xs ++ ys) error
word_fault_front xs ys error t (too_long h e) = too_long (omega (arith, length_front xs ys t)) (e ∙ ap TooLong (sym (length_front xs ys t)))
word_fault_front xs ys error t (bad_length h e) = bad_length (omega (arith, length_front xs ys t)) e
word_fault_front xs ys error t (bad_type h g n e) =
    bad_type (omega (arith, length_front xs ys t)) (omega (arith, length_front xs ys t)) (λ p. n (plain_back xs ys t p)) e

head_fault_front : (xs ys : List ℕ) (error : FrameError) → IsHeadFault xs error → IsHeadFault (xs ++ ys) error
head_fault_front xs ys error (fault.version h n e) =
    let v : version_in (xs ++ ys) ≡ version_in xs = version_front xs ys h in
    fault.version (omega (arith, longer xs ys)) (λ z. n (sym v ∙ z)) (e ∙ ap Version (sym v))
head_fault_front xs ys error (fault.word t v w) =
    fault.word (omega (arith, longer xs ys)) (version_front xs ys (omega arith) ∙ v) (word_fault_front xs ys error t w)

pub fault_front : (xs ys : List ℕ) (error : FrameError) → IsFrameFault xs error → IsFrameFault (xs ++ ys) error
fault_front xs ys error (fault.head f) = fault.head (head_fault_front xs ys error f)
fault_front xs ys error (fault.fields inner h r f e) =
    fault.fields inner (head_front xs ys h) (omega (arith, longer xs ys, length_front xs ys h.head))
    (subst (λ (b : List ℕ). IsFieldsFault 12 b inner) (sym (fields_front xs ys h.head r)) f) e

-- the bytes of a whole frame in front of others
module _ (bytes whole : List ℕ) (n : ℕ) (hd : HasHead bytes) (size : n ≡ 8 + blob_length_in bytes) (room : n ≤ length bytes) (front : whole ≡ take n bytes) where
  parts : whole ++ drop n bytes ≡ bytes
  parts = ap (λ w. w ++ drop n bytes) front ∙ take-append-drop n bytes

  whole_length : length whole ≡ n
  whole_length = ap length front ∙ length-take-le n bytes room

  twelve : 12 ≤ length whole
  twelve = let l : 4 ≤ blob_length_in bytes = hd.taken.least in omega (arith, whole_length)

  pub whole_head : HasHead whole
  whole_head = head_back whole (drop n bytes) twelve (subst HasHead (sym parts) hd)

  pub whole_size : 8 + blob_length_in whole ≡ length whole
  whole_size =
      let l : blob_length_in bytes ≡ blob_length_in whole = ap blob_length_in (sym parts) ∙ length_front whole (drop n bytes) twelve in
      omega (arith, whole_length)

pub size_found : (bytes : List ℕ) (o : Option ℕ) (n : ℕ) → o ≡ Some n → MatchOption o (IsUnfinished bytes) (λ k. HasHead bytes × (k ≡ 8 + blob_length_in bytes) × (k ≤ length bytes))
    → HasHead bytes × (n ≡ 8 + blob_length_in bytes) × (n ≤ length bytes)
size_found bytes o n e m =
    subst (λ (p : Option ℕ). MatchOption p (IsUnfinished bytes) (λ k. HasHead bytes × (k ≡ 8 + blob_length_in bytes) × (k ≤ length bytes))) e m

pub whole_begins : (bytes whole : List ℕ) (n : ℕ) (frame : Frame) → whole ≡ take n bytes → SpellsFrame whole frame → BeginsWithFrame bytes frame
whole_begins bytes whole n frame w s =
    subst (λ (b : List ℕ). BeginsWithFrame b frame) (ap (λ f. f ++ drop n bytes) w ∙ take-append-drop n bytes) (begins_front whole (drop n bytes) frame s.begins)

pub whole_fault : (bytes whole : List ℕ) (n : ℕ) (error : FrameError) → whole ≡ take n bytes → IsFrameFault whole error → IsFrameFault bytes error
whole_fault bytes whole n error w f =
    subst (λ (b : List ℕ). IsFrameFault b error) (ap (λ b. b ++ drop n bytes) w ∙ take-append-drop n bytes) (fault_front whole (drop n bytes) error f)

pub behind_is : (bytes behind : List ℕ) (n : ℕ) → behind ≡ drop n bytes → n ≡ 8 + blob_length_in bytes → behind ≡ behind_frame bytes
unfolding behind_frame
behind_is bytes behind n b e = b ∙ ap (λ k. drop k bytes) e

-- what the loop over a stream keeps
drop_nil : (k : ℕ) → drop {A = ℕ} k [] ≡ []
drop_nil zero = refl
drop_nil (suc k) = refl

drop_more : (a b : ℕ) (xs : List ℕ) → drop b (drop a xs) ≡ drop (a + b) xs
drop_more zero b xs = ap (λ k. drop k xs) (let e : b ≡ 0 + b = omega arith in e)
drop_more (suc a) b [] = drop_nil b ∙ sym (drop_nil (suc a + b))
drop_more (suc a) b (x ∷ xs) = drop_more a b xs ∙ ap (λ k. drop k (x ∷ xs)) (let e : suc (a + b) ≡ suc a + b = omega arith in e)

pub stream_start : (bytes : List ℕ) → StreamSoFar 0 bytes bytes []
stream_start bytes = record { place = refl; room = omega arith; sound = λ others end d. d }

pub shorter : (rest : List ℕ) (front : Front) → HasFront rest front → length front.behind.now + front.size ≡ length rest
unfolding behind_frame
shorter rest front h =
    let r : 8 + blob_length_in rest ≤ length rest = h.begins.room in
    let b : length front.behind.now ≡ length rest - (8 + blob_length_in rest) = ap length h.behind_is ∙ length-drop (8 + blob_length_in rest) rest in
    let s : front.size ≡ 8 + blob_length_in rest = h.size_is in
    omega arith

behind_place : (at : ℕ) (bytes rest : List ℕ) → rest ≡ drop at bytes → behind_frame rest ≡ drop (at + (8 + blob_length_in rest)) bytes
unfolding behind_frame
behind_place at bytes rest e = ap (drop (8 + blob_length_in rest)) e ∙ drop_more at (8 + blob_length_in rest) bytes

pub stream_more : (at : ℕ) (bytes rest : List ℕ) (frames pushed : List Frame) (front : Front) → StreamSoFar at bytes rest frames → HasFront rest front
    → pushed ≡ frames ++ front.frame ∷ [] → StreamSoFar (at + front.size) bytes front.behind.now pushed
stream_more at bytes rest frames pushed front so h p =
    let k : at + length rest ≡ length bytes = so.room in
    record {
      place = h.behind_is ∙ (behind_place at bytes rest so.place ∙ ap (λ n. drop (at + n) bytes) (sym h.size_is));
      room = omega (arith, shorter rest front h);
      sound = λ others end d. subst (λ (fs : List Frame). Divides bytes fs end) (sym (ap (λ fs. fs ++ others) p ∙ append_assoc frames (front.frame ∷ []) others))
          (so.sound (front.frame ∷ others) end (stream.frame rest front.frame others (front.frame ∷ others) end h.begins (subst (λ (b : List ℕ). Divides b others end) h.behind_is d) refl));
    }

pub stream_end : (at : ℕ) (bytes rest : List ℕ) (frames : List Frame) → StreamSoFar at bytes rest frames → IsRest rest → Divides bytes frames (drop at bytes)
stream_end at bytes rest frames so r =
    subst (λ (fs : List Frame). Divides bytes fs (drop at bytes)) (append-nil frames) (so.sound [] (drop at bytes) (stream.none rest [] (drop at bytes) r refl (sym so.place)))

pub rest_of : (rest : List ℕ) (o : Option FrameError) → IsFaultOf rest o → IsRest rest
rest_of rest o (no_fault e u) = unfinished u
rest_of rest o (a_fault error e n f) = faulty error f

-- what a feed adds to a stream
pub divides_more : (bytes piece : List ℕ) (frames found : List Frame) (rest end : List ℕ) → Divides bytes frames rest → Divides (rest ++ piece) found end
    → Divides (bytes ++ piece) (frames ++ found) end
divides_more bytes piece frames found rest end (stream.none _ _ _ r f e) d =
    subst (λ (b : List ℕ). Divides (b ++ piece) (frames ++ found) end) e (subst (λ (fs : List Frame). Divides (rest ++ piece) (fs ++ found) end) (sym f) d)
divides_more bytes piece frames found rest end (stream.frame _ first others _ _ b t f) d =
    let i : Divides (behind_frame bytes ++ piece) (others ++ found) end = divides_more (behind_frame bytes) piece others found rest end t d in
    stream.frame (bytes ++ piece) first (others ++ found) (frames ++ found) end (begins_front bytes piece first b)
    (subst (λ (xs : List ℕ). Divides xs (others ++ found) end) (sym (behind_front bytes piece first b)) i) (ap (λ fs. fs ++ found) f)

pub front_shorter : (rest : List ℕ) (front : Front) → HasFront rest front → length front.behind.now < length rest
front_shorter rest front h = let s : front.size ≡ 8 + blob_length_in rest = h.size_is in omega (arith, shorter rest front h)

pub pushes_start : (bytes : List ℕ) (others after : List Frame) → after ≡ others → PushesSoFar 0 bytes bytes others after
pushes_start bytes others after same = record { found = []; frames = same ∙ sym (append-nil others); so_far = stream_start bytes }

pub pushes_more : (at : ℕ) (bytes rest : List ℕ) (others before after : List Frame) (front : Front) → PushesSoFar at bytes rest others before → HasFront rest front
    → after ≡ before ++ front.frame ∷ [] → PushesSoFar (at + front.size) bytes front.behind.now others after
pushes_more at bytes rest others before after front so h p =
    record {
      found = so.found ++ front.frame ∷ [];
      frames = p ∙ (ap (λ fs. fs ++ front.frame ∷ []) so.frames ∙ append_assoc others so.found (front.frame ∷ []));
      so_far = stream_more at bytes rest so.found (so.found ++ front.frame ∷ []) front so.so_far h refl;
    }

pub pushes_end : (at : ℕ) (bytes rest : List ℕ) (others after : List Frame) (fault : Option FrameError) → PushesSoFar at bytes rest others after → IsFaultOf rest fault
    → HasFound bytes others after (record { size = at; fault = fault })
pushes_end at bytes rest others after fault so f =
    let k : at + length rest ≡ length bytes = so.so_far.room in
    record {
      found = so.found;
      frames = so.frames;
      room = omega arith;
      divides = stream_end at bytes rest so.found so.so_far (rest_of rest fault f);
      fault = subst (λ (end : List ℕ). IsFaultOf end fault) so.so_far.place f;
    }

pub moves_from : (others after : List Frame) (bytes slice rest : List ℕ) (front : Found) → HasFound slice others after front → slice ≡ bytes → rest ≡ drop front.size bytes
    → Moves others after bytes rest front.fault
moves_from others after bytes slice rest front h s r =
    let e : drop front.size slice ≡ rest = ap (drop front.size) s ∙ sym r in
    record {
      found = h.found;
      divides = subst (λ (xs : List ℕ). Divides xs h.found rest) s (subst (λ (xs : List ℕ). Divides slice h.found xs) e h.divides);
      frames = h.frames;
      fault_is = subst (λ (xs : List ℕ). IsFaultOf xs front.fault) e h.fault;
    }

pub fault_there : (rest : List ℕ) (o : Option FrameError) (error : FrameError) → IsFaultOf rest o → o ≡ Some error → IsFrameFault rest error
fault_there rest o error (no_fault e u) h = absurd (let q : None ≡ Some error = sym e ∙ h in cc)
fault_there rest o error (a_fault other e n f) h =
    let q : Some other ≡ Some error = sym e ∙ h in
    let same : other ≡ error = cc q in
    subst (λ (x : FrameError). IsFrameFault rest x) same f

pub no_fault_there : (rest : List ℕ) (o : Option FrameError) → IsFaultOf rest o → o ≡ None → IsUnfinished rest
no_fault_there rest o (no_fault e u) h = u
no_fault_there rest o (a_fault other e n f) h = absurd (let q : None ≡ Some other = sym h ∙ e in cc)

pub front_found : (rest : List ℕ) (o : Option Front) (front : Front) → o ≡ Some front → MatchOption o (IsUnfinished rest) (λ whole. HasFront rest whole) → HasFront rest front
front_found rest o front e m = subst (λ (p : Option Front). MatchOption p (IsUnfinished rest) (λ whole. HasFront rest whole)) e m

pub rest_found : (rest : List ℕ) (o : Option Front) → o ≡ None → MatchOption o (IsUnfinished rest) (λ whole. HasFront rest whole) → IsUnfinished rest
rest_found rest o e m = subst (λ (p : Option Front). MatchOption p (IsUnfinished rest) (λ whole. HasFront rest whole)) e m

pub refuses_from : (piece : List ℕ) (now : Stream) (ready moved : List Frame) (held fed rest : List ℕ) (was after : Option FrameError) (fault error : FrameError)
    → record { frames = ready; rest = held } ≡ now → IsFaultOf held was → was ≡ None → fed ≡ held ++ piece → Moves ready moved fed rest after → after ≡ Some fault
    → fault ≡ error → Refuses piece now (record { frames = moved; rest = rest }) error
refuses_from piece now ready moved held fed rest was after fault error v i n f m a e =
    let there : IsFrameFault rest fault = fault_there rest after fault m.fault_is a in
    let before : Stream = record { frames = ready; rest = held } in
    let next : Stream = record { frames = moved; rest = rest } in
    let appends : Appends piece before next = record { found = m.found; divides = subst (λ (bytes : List ℕ). Divides bytes m.found rest) f m.divides; frames = m.frames } in
    subst (λ (x : Stream). Refuses piece x next error) v
    (stream.comes (no_fault_there held was i n) appends (subst (λ (x : FrameError). IsFrameFault rest x) e there))
