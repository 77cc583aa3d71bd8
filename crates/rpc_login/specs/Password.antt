-- Stored passwords: a salt, and the SHA-256 digest (FIPS 180-4) of the salt followed by the password.
use Rattle.std.specs.Prelude.{ℕ, ◌≡◌, ◌≤◌, List, ◌++◌, codes, length}
use Rattle.hex.specs.Hex.{encode_lower, IsBytes}
use Rattle.sha2.specs.Sha256.{sha256}

-- what is digested
abbrev pub digest_of : List ℕ → List ℕ → List ℕ
digest_of salt password = sha256 (salt ++ password)

-- a text `$s$SALT$DIGEST`
abbrev pub salted_text : List ℕ → List ℕ → List ℕ
salted_text salt_digits digest_digits = codes "$s$" ++ (salt_digits ++ (codes "$" ++ digest_digits))

-- the stored text of a salt and a password: both parts in lower-case hexadecimal digits
abbrev pub stored_text : List ℕ → List ℕ → List ℕ
stored_text salt password = salted_text (encode_lower salt) (encode_lower (digest_of salt password))

-- a salt has 1 to 32 bytes
pub record IsSalt (salt : List ℕ) : Type 0 where
  pub some : 1 ≤ length salt
  pub few : length salt ≤ 32
  pub bytes : IsBytes salt

-- the stored text fits the password: it is that of some salt and the password
pub record PasswordFits (stored password : List ℕ) : Type 0 where
  pub salt : List ℕ
  pub is_salt : IsSalt salt
  pub is : stored ≡ stored_text salt password
