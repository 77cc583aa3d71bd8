-- Which of the two texts bytes have.
use Rattle.std.proofs.Common.{ℕ, ◌≡◌, List, Bool, true, false, cond, encode_utf8_all, IsUtf8, sym, ap, ◌∙◌, refl, Result, Ok, Err, IfOk}
use Rattle.std.specs.Str.{is_utf8}
use Rattle.std.proofs.lemmas.Str.{is_utf8-from_IsUtf8, IsUtf8-from_is_utf8}
use Rattle.blob_codec.specs.AsText.{json_text_of}

pub of_text : (bytes : List ℕ) → IsUtf8 bytes → bytes ≡ json_text_of bytes
of_text bytes u = sym (ap (λ b. cond b bytes (encode_utf8_all bytes)) (is_utf8-from_IsUtf8 bytes u))

not_text : (bytes : List ℕ) (b : Bool) → is_utf8 bytes ≡ b → (IsUtf8 bytes → ⊥) → is_utf8 bytes ≡ false
not_text bytes true e h = absurd (h (IsUtf8-from_is_utf8 bytes e))
not_text bytes false e h = e

pub of_characters : (bytes : List ℕ) → (IsUtf8 bytes → ⊥) → encode_utf8_all bytes ≡ json_text_of bytes
of_characters bytes h = sym (ap (λ b. cond b bytes (encode_utf8_all bytes)) (not_text bytes (is_utf8 bytes) refl h))

pub if_ok_is : {A E : Type 0} (f : A → List ℕ) (r : Result A E) (text other : List ℕ) → text ≡ other → IfOk r (λ t. f t ≡ text) → IfOk r (λ t. f t ≡ other)
if_ok_is f (Ok t) text other e h = h ∙ e
if_ok_is f (Err error) text other e h = tt
