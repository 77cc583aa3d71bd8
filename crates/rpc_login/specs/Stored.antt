-- How a stored password is taken apart.
use Rattle.std.specs.Prelude.{ℕ, ◌≡◌, List, length}
use Rattle.hex.specs.Hex.{encode_lower}
use Rattle.rpc_login.specs.Password.{IsSalt, digest_of, salted_text}

-- the text has these two parts between its signs, and the digest has 64 digits
pub record IsCut (stored salt_digits digest_digits : List ℕ) : Type 0 where
  pub is : stored ≡ salted_text salt_digits digest_digits
  pub long : length digest_digits ≡ 64

-- the digits are those of some salt and of its digest with the password
pub record PartsFit (salt_digits digest_digits password : List ℕ) : Type 0 where
  pub salt : List ℕ
  pub is_salt : IsSalt salt
  pub salt_is : salt_digits ≡ encode_lower salt
  pub digest_is : digest_digits ≡ encode_lower (digest_of salt password)
