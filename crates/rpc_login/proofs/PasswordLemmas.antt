-- What the parts of a stored password fit, and that a text has them in one way.
use Rattle.std.proofs.Common.{ℕ, zero, suc, ◌≡◌, ◌≤◌, ◌<◌, ◌*◌, ◌/◌, ◌%◌, ◌++◌, List, [], ◌∷◌, length, drop, codes, Result, Ok, Err, refl, sym, ap, subst, ◌∙◌, arith, length-append}
use Rattle.std.specs.Prelude.{MatchResult}
use Rattle.std.specs.Prelude.{slice_index}
use Rattle.std.specs.Int.{to_be_bytes, w32}
use Rattle.hex.specs.Hex.{encode_lower, decode_of, decode_sized, lower_digits, IsBytes}
use Rattle.sha2.specs.Sha256.{digest_bytes, sha256}
use Rattle.hex.specs.declared.error.FromHexError.{FromHexError}
use Rattle.hex.proofs.HexLemmas.{decode_of-encode_lower, decode_of-ok, decode_of-same, decode_sized-encode_lower, decode_sized-ok, decode_sized-twice, length-encode_with}
use Rattle.sha2.proofs.Facts256.{length-sha256}
use Rattle.rpc_login.specs.Password.{IsSalt, PasswordFits, digest_of, salted_text, stored_text}
use Rattle.rpc_login.specs.Stored.{IsCut, PartsFit}

-- what was decoded where it was
pub decoded : (d : Result (List ℕ) FromHexError) (r : Result Unit FromHexError) (out : List ℕ)
    → MatchResult d (λ bytes. (r ≡ Ok tt) × (out ≡ bytes)) (λ e. r ≡ Err e) → r ≡ Ok tt → d ≡ Ok out
decoded (Ok bytes) r out h is = ap Ok (sym h.1)
decoded (Err e) r out h is = cc (sym is ∙ h)

-- what decodes was decoded
pub decodes : (d : Result (List ℕ) FromHexError) (r : Result Unit FromHexError) (out bytes : List ℕ)
    → MatchResult d (λ bytes. (r ≡ Ok tt) × (out ≡ bytes)) (λ e. r ≡ Err e) → d ≡ Ok bytes → r ≡ Ok tt
decodes (Ok other) r out bytes h is = h.0
decodes (Err e) r out bytes h is = cc is

-- the digits of parts that fit are decoded to their salt
pub salt_of_parts : (digits digest password : List ℕ) (n : ℕ) (fit : PartsFit digits digest password) → n ≡ length digits / 2 → decode_sized digits n ≡ Ok fit.salt
salt_of_parts digits digest password n fit half =
    let twice : length digits ≡ 2 * length fit.salt = ap length fit.salt_is ∙ length-encode_with lower_digits fit.salt in
    ap (λ s. decode_sized s n) fit.salt_is ∙ decode_sized-encode_lower fit.salt n (omega (arith, half, twice)) fit.is_salt.bytes

-- parts with a salt that was decoded fit
pub parts_fit : (digits digest password salt : List ℕ) (n : ℕ) → 1 ≤ n → n ≤ 32 → decode_sized digits n ≡ Ok salt
    → digits ≡ encode_lower salt → digest ≡ encode_lower (digest_of salt password) → PartsFit digits digest password
parts_fit digits digest password salt n some few read salt_is digest_is =
    let twice = decode_sized-ok digits n salt read in
    let ok = decode_of-ok digits salt (sym (decode_sized-twice digits n twice) ∙ read) in
    let long = ok.2 in
    record {
      salt = salt;
      is_salt = record { some = omega (arith, long, twice, some); few = omega (arith, long, twice, few); bytes = ok.3 };
      salt_is = salt_is;
      digest_is = digest_is;
    }

-- parts that fit do so by the salt that was decoded
pub parts_by : (digits digest password salt : List ℕ) (n : ℕ) → n ≡ length digits / 2 → decode_sized digits n ≡ Ok salt → PartsFit digits digest password
    → (digits ≡ encode_lower salt) × (digest ≡ encode_lower (digest_of salt password))
parts_by digits digest password salt n half read fit =
    let twice = decode_sized-ok digits n salt read in
    let same : fit.salt ≡ salt = decode_of-same digits fit.salt salt (sym (decode_sized-twice digits n twice) ∙ salt_of_parts digits digest password n fit half)
    (sym (decode_sized-twice digits n twice) ∙ read) in
    (fit.salt_is ∙ ap encode_lower same, fit.digest_is ∙ ap (λ s. encode_lower (digest_of s password)) same)

-- two lists with ends of one length are equal in both parts
parts_of : (a c b d : List ℕ) → a ++ b ≡ c ++ d → length b ≡ length d → (a ≡ c) × (b ≡ d)
parts_of [] [] b d h len = (refl, h)
parts_of [] (x ∷ c) b d h len =
    let long = ap length h in
    let apart = length-append c d in
    absurd (omega (arith, long, apart, len))
parts_of (x ∷ a) [] b d h len =
    let long = ap length h in
    let apart = length-append a b in
    absurd (omega (arith, long, apart, len))
parts_of (x ∷ a) (y ∷ c) b d h len =
    let rest = parts_of a c b d (ap (drop 1) h) len in
    (cons_same (first_same h) rest.0, rest.1)
  where
    first_same : {x y : ℕ} {xs ys : List ℕ} → x ∷ xs ≡ y ∷ ys → x ≡ y
    first_same h = cc h

    cons_same : {x y : ℕ} {xs ys : List ℕ} → x ≡ y → xs ≡ ys → x ∷ xs ≡ y ∷ ys
    cons_same h k = cc (h, k)

-- a text is cut in one way
pub one_cut : (stored a b c d : List ℕ) → IsCut stored a b → IsCut stored c d → (a ≡ c) × (b ≡ d)
one_cut stored a b c d one other =
    let inner : a ++ (codes "$" ++ b) ≡ c ++ (codes "$" ++ d) = ap (drop 3) (sym one.is ∙ other.is) in
    let len : length (codes "$" ++ b) ≡ length (codes "$" ++ d) = ap suc (one.long ∙ sym other.long) in
    let parts = parts_of a c (codes "$" ++ b) (codes "$" ++ d) inner len in
    (parts.0, ap (drop 1) parts.1)

-- a stored text is cut into its digits
pub cut_of_stored : (salt password : List ℕ) → IsCut (stored_text salt password) (encode_lower salt) (encode_lower (digest_of salt password))
cut_of_stored salt password = record { is = refl; long = long }
  where
    long : length (encode_lower (digest_of salt password)) ≡ 64
    long = length-encode_with lower_digits (digest_of salt password) ∙ ap (λ n. 2 * n) (length-sha256 (salt ++ password))

-- a password fits where the parts fit
pub fits_by_parts : (stored digits digest password : List ℕ) → IsCut stored digits digest → PartsFit digits digest password → PasswordFits stored password
fits_by_parts stored digits digest password cut fit = record {
  salt = fit.salt;
  is_salt = fit.is_salt;
  is = cut.is ∙ (ap (λ s. salted_text s digest) fit.salt_is ∙ ap (salted_text (encode_lower fit.salt)) fit.digest_is);
}

-- and only there
pub parts_by_fits : (stored digits digest password : List ℕ) → IsCut stored digits digest → PasswordFits stored password → PartsFit digits digest password
parts_by_fits stored digits digest password cut fit =
    let made : IsCut stored (encode_lower fit.salt) (encode_lower (digest_of fit.salt password)) =
    subst (λ s. IsCut s (encode_lower fit.salt) (encode_lower (digest_of fit.salt password))) (sym fit.is) (cut_of_stored fit.salt password) in
    let same = one_cut stored digits digest (encode_lower fit.salt) (encode_lower (digest_of fit.salt password)) cut made in
    record { salt = fit.salt; is_salt = fit.is_salt; salt_is = same.0; digest_is = same.1 }

-- a text that fits is cut
pub cut_of_fits : (stored password : List ℕ) (fit : PasswordFits stored password) → IsCut stored (encode_lower fit.salt) (encode_lower (digest_of fit.salt password))
cut_of_fits stored password fit = record {
  is = fit.is;
  long = (cut_of_stored fit.salt password).long;
}

-- the salt of parts that fit has 1 to 32 bytes
pub digits_of_parts : (digits digest password : List ℕ) (fit : PartsFit digits digest password) → (length digits ≡ 2 * length fit.salt) × (1 ≤ length fit.salt) × (length fit.salt ≤ 32)
digits_of_parts digits digest password fit = (ap length fit.salt_is ∙ length-encode_with lower_digits fit.salt, fit.is_salt.some, fit.is_salt.few)

-- digits are those of one list of bytes
one_digits : (a b : List ℕ) → IsBytes a → IsBytes b → encode_lower a ≡ encode_lower b → a ≡ b
one_digits a b ha hb h = decode_of-same (encode_lower a) a b (decode_of-encode_lower a ha) (ap decode_of h ∙ decode_of-encode_lower b hb)

-- a stored text has one salt
pub salt_of_stored : (a b first second : List ℕ) → IsSalt a → IsSalt b → stored_text a first ≡ stored_text b second → a ≡ b
salt_of_stored a b first second one other h =
    let E : List ℕ → Type 0 = λ s. IsCut s (encode_lower b) (encode_lower (digest_of b second)) in
    let same = one_cut (stored_text a first) (encode_lower a) (encode_lower (digest_of a first)) (encode_lower b) (encode_lower (digest_of b second))
    (cut_of_stored a first) (subst E (sym h) (cut_of_stored b second)) in
    one_digits a b one.bytes other.bytes same.0

byte_below : (n k : ℕ) → n / k % 256 < 256
byte_below n k = omega arith

bytes_append : (a b : List ℕ) → IsBytes a → IsBytes b → IsBytes (a ++ b)
bytes_append [] b ha hb i = hb i
bytes_append (x ∷ a) b ha hb zero = ha 0
bytes_append (x ∷ a) b ha hb (suc i) = bytes_append a b (λ k. ha (suc k)) hb i

bytes_of_word : (n : ℕ) → IsBytes (to_be_bytes w32 n)
bytes_of_word n zero = omega arith
bytes_of_word n (suc zero) = omega arith
bytes_of_word n (suc (suc zero)) = omega arith
bytes_of_word n (suc (suc (suc zero))) = omega arith
bytes_of_word n (suc (suc (suc (suc i)))) = omega arith

bytes_of_words : (h : List ℕ) (n : ℕ) → IsBytes (digest_bytes h n)
unfolding digest_bytes
bytes_of_words h zero = λ i. omega arith
bytes_of_words h (suc n) = bytes_append (digest_bytes h n) (to_be_bytes w32 (slice_index h n)) (bytes_of_words h n) (bytes_of_word (slice_index h n))

-- a digest has bytes
bytes_of_digest : (salt password : List ℕ) → IsBytes (digest_of salt password)
unfolding sha256
bytes_of_digest salt password = bytes_of_words _ 8

-- and one digest
pub digest_of_stored : (stored first second : List ℕ) (one : PasswordFits stored first) (other : PasswordFits stored second) → digest_of one.salt first ≡ digest_of other.salt second
digest_of_stored stored first second one other =
    let same = one_cut stored (encode_lower one.salt) (encode_lower (digest_of one.salt first)) (encode_lower other.salt) (encode_lower (digest_of other.salt second))
    (cut_of_fits stored first one) (cut_of_fits stored second other) in
    one_digits (digest_of one.salt first) (digest_of other.salt second) (bytes_of_digest one.salt first) (bytes_of_digest other.salt second) same.1
