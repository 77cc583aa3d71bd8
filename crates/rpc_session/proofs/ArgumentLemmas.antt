-- What decoding says of an id.
use Rattle.std.proofs.Common.{◌≡◌, ℕ, List, Some, None, Result, Ok, Err, MatchResult, refl, sym, ap, ◌∙◌}
use Rattle.std.specs.Int.{w128, from_be_bytes}
use Rattle.hex.specs.declared.error.FromHexError.{FromHexError}
use Rattle.rpc_session.specs.Arguments.{number_in}

-- digits that were decoded are the number of their bytes
pub named : (decoded : Result (List ℕ) FromHexError) (r : Result (Unit {0}) FromHexError) (out : List ℕ) (n : ℕ) → MatchResult decoded (λ bytes. (r ≡ Ok tt) × (out ≡ bytes)) (λ e. r ≡ Err e) → r ≡ Ok tt → n ≡ from_be_bytes w128 out → Some n
    ≡ number_in decoded
named (Ok bytes) r out n says is value = ap Some value ∙ ap (λ b. Some (from_be_bytes w128 b)) says.1
named (Err e) r out n says is value = absurd (let h = sym is ∙ says in cc)

-- digits that were not decoded are no number
pub not_named : (decoded : Result (List ℕ) FromHexError) (r : Result (Unit {0}) FromHexError) (out : List ℕ) (e : FromHexError) → MatchResult decoded (λ bytes. (r ≡ Ok tt) × (out ≡ bytes)) (λ e. r ≡ Err e) → r ≡ Err e → None
    ≡ number_in decoded
not_named (Ok bytes) r out e says is = absurd (let h = sym is ∙ says.0 in cc)
not_named (Err other) r out e says is = refl
