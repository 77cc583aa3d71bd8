-- JSON texts that are read.
use Rattle.std.proofs.Common.{ℕ, ◌≡◌, List, Some, None, true, false, Bool, cond, refl, sym, ap, ◌∙◌}
use Rattle.std.specs.Str.{is_utf8, IsUtf8}
use Rattle.std.proofs.lemmas.Str.{is_utf8-from_IsUtf8, IsUtf8-from_is_utf8}
use Rattle.serde_json.specs.Data.{Data}
use Rattle.serde_json.specs.Read.{read}
use Rattle.plane_step.specs.Means.{json_of}

-- the bytes are this JSON value
pub json_found : (bytes : List ℕ) (d : Data) → IsUtf8 bytes → read bytes ≡ Some d
    → Some d ≡ json_of bytes
json_found bytes d u r =
    sym r ∙ sym (ap (λ b. cond b (read bytes) None) (is_utf8-from_IsUtf8 bytes u))

not_found : (bytes : List ℕ) (b : Bool) → is_utf8 bytes ≡ b → (IsUtf8 bytes → read bytes ≡ None)
    → None ≡ cond b (read bytes) None
not_found bytes true e h = sym (h (IsUtf8-from_is_utf8 bytes e))
not_found bytes false e h = refl

-- the bytes are no JSON value
pub json_missing : (bytes : List ℕ) → (IsUtf8 bytes → read bytes ≡ None) → None ≡ json_of bytes
json_missing bytes h = not_found bytes (is_utf8 bytes) refl h
