-- What the reader has found so far.
use Rattle.std.proofs.Common.{ℕ, ◌≡◌, ◌+◌, ◌<◌, ◌^◌, List, [], ◌∷◌, ◌++◌, length, arith, refl, subst, append_assoc, append-nil, sym, Some}
use Rattle.std.specs.Int.{w32, from_be_bytes}
use Rattle.blob_codec.specs.declared.blob_error.BlobError.{BlobError}
use Rattle.blob_codec.specs.Attribute.{padded, flag_in, type_in, length_in, behind}
use Rattle.blob_codec.specs.Fault.{first_held}
use Rattle.ubus_frames.specs.declared.frame.Frame.{Frame}
use Rattle.ubus_frames.specs.Fault as fault
use Rattle.ubus_frames.specs.Fault.{IsFieldsFault, IsKnownFault}
use Rattle.ubus_frames.specs.Field.{IsWhole, data_in, word_tests}
use Rattle.ubus_frames.specs.Found.{NumbersSoFar, FieldsSoFar}
use Rattle.ubus_frames.specs.Layout as layout
use Rattle.ubus_frames.specs.Layout.{Changes, Puts, MakesOf}
use Rattle.ubus_frames.specs.Numbers.{IsNumber, IsNumberFault, SpellsNumbers, IsNumbersFault, none, number, front, later}
use Rattle.ubus_frames.proofs.FieldLemmas.{length-behind}

behind_room : (at : ℕ) (rest : List ℕ) → IsWhole rest → at + length rest < 2 ^ 64 → at + padded (length_in rest) + length (behind rest) < 2 ^ 64
behind_room at rest w r = let b : length (behind rest) + padded (length_in rest) ≡ length rest = length-behind rest w in omega arith

pub numbers_start : (place : ℕ) (bytes : List ℕ) → place + length bytes < 2 ^ 64 → NumbersSoFar place place bytes bytes []
numbers_start place bytes r = record { room = r; sound = λ others s. s; bad = λ error f. f }

numbers_go_on : (place at : ℕ) (bytes rest numbers : List ℕ) → NumbersSoFar place at bytes rest numbers → IsNumber rest
    → NumbersSoFar place (at + padded (length_in rest)) bytes (behind rest) (numbers ++ from_be_bytes w32 (data_in rest) ∷ [])
numbers_go_on place at bytes rest numbers so is = record {
  room = behind_room at rest is.whole so.room;
  sound = λ others t. subst (λ (xs : List ℕ). SpellsNumbers bytes xs) (sym (append_assoc numbers (from_be_bytes w32 (data_in rest) ∷ []) others))
      (so.sound (from_be_bytes w32 (data_in rest) ∷ others) (number rest others _ is t refl));
  bad = λ error f. so.bad error (later at rest error is f);
}

pub numbers_more : (place at size n : ℕ) (bytes rest after numbers pushed : List ℕ) → NumbersSoFar place at bytes rest numbers → IsNumber rest
    → n ≡ from_be_bytes w32 (data_in rest) → size ≡ padded (length_in rest) → after ≡ behind rest → pushed ≡ numbers ++ n ∷ []
    → NumbersSoFar place (at + size) bytes after pushed
numbers_more place at size n bytes rest after numbers pushed so is e z b p = rw (z, b, p, e) (numbers_go_on place at bytes rest numbers so is)

pub numbers_end : (place at : ℕ) (bytes rest numbers : List ℕ) → NumbersSoFar place at bytes rest numbers → length rest ≡ 0 → SpellsNumbers bytes numbers
numbers_end place at bytes rest numbers so n =
    subst (λ (xs : List ℕ). SpellsNumbers bytes xs) (append-nil numbers) (so.sound [] (none rest [] n refl))

pub number_refused : (place at : ℕ) (bytes rest numbers : List ℕ) (error : BlobError) → NumbersSoFar place at bytes rest numbers → 0 < length rest
    → IsNumberFault at rest error → IsNumbersFault place bytes error
number_refused place at bytes rest numbers error so h f = so.bad error (front at rest error h f)

pub fields_start : (place : ℕ) (bytes : List ℕ) (start : Frame) → place + length bytes < 2 ^ 64 → FieldsSoFar place place bytes bytes start start
fields_start place bytes start r = record { room = r; sound = λ after s. s; bad = λ error f. f }

fields_go_on : (place at : ℕ) (bytes rest : List ℕ) (start now next : Frame) → FieldsSoFar place at bytes rest start now → Changes rest now next
    → FieldsSoFar place (at + padded (length_in rest)) bytes (behind rest) start next
fields_go_on place at bytes rest start now next so ch = record {
  room = behind_room at rest ch.whole so.room;
  sound = λ after t. so.sound after (layout.field rest now next after ch t);
  bad = λ error f. so.bad error (fault.later at rest error now next ch f);
}

-- the parts of an attribute that puts its value
pub changes_from : (rest value : List ℕ) (flag id : ℕ) (now next : Frame) → IsWhole rest → flag ≡ flag_in rest → id ≡ type_in rest → value ≡ data_in rest
    → Puts flag id value now next → Changes rest now next
changes_from rest value flag id now next w f i v p =
    let q : Puts (flag_in rest) (type_in rest) (data_in rest) now next = rw (sym f, sym i, sym v) p in record { whole = w; puts = q }

pub fields_more : (place at size : ℕ) (bytes rest after : List ℕ) (start now next : Frame) → FieldsSoFar place at bytes rest start now → Changes rest now next
    → size ≡ padded (length_in rest) → after ≡ behind rest → FieldsSoFar place (at + size) bytes after start next
fields_more place at size bytes rest after start now next so ch z b = rw (z, b) (fields_go_on place at bytes rest start now next so ch)

pub fields_end : (place at : ℕ) (bytes rest : List ℕ) (start now : Frame) → FieldsSoFar place at bytes rest start now → length rest ≡ 0 → MakesOf bytes start now
fields_end place at bytes rest start now so n = so.sound now (layout.none rest now now n refl)

pub word_refused : (place at : ℕ) (bytes rest : List ℕ) (start now : Frame) (error : BlobError) → FieldsSoFar place at bytes rest start now → 0 < length rest
    → first_held (word_tests at rest) ≡ Some error → IsFieldsFault place bytes error
word_refused place at bytes rest start now error so h g = so.bad error (fault.word at rest error h g)

pub value_refused : (place at flag id : ℕ) (bytes rest value : List ℕ) (start now : Frame) (error : BlobError) → FieldsSoFar place at bytes rest start now → IsWhole rest
    → flag ≡ flag_in rest → id ≡ type_in rest → value ≡ data_in rest → IsKnownFault at flag id value error → IsFieldsFault place bytes error
value_refused place at flag id bytes rest value start now error so w f i v k =
    let q : IsKnownFault at (flag_in rest) (type_in rest) (data_in rest) error = rw (sym f, sym i, sym v) k in so.bad error (fault.value at rest error w q)
