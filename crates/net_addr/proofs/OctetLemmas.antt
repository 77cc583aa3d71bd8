-- Octets and the segments that each two of them are.
use Rattle.std.proofs.Common.{◌≡◌, ℕ, zero, suc, ◌+◌, ◌*◌, ◌/◌, ◌%◌, ◌^◌, ◌<◌, List, [], ◌∷◌, length, slice_index, refl, arith}
use Rattle.std.specs.Net.Addr.{segments_of, octets_of}

-- an even number of octets, as segments and back
pub octets_of-segments_of : (n : ℕ) (xs : List ℕ) → length xs ≡ 2 * n → ((k : ℕ) → slice_index xs k < 256) → octets_of (segments_of xs) ≡ xs
octets_of-segments_of n [] even fit = refl
octets_of-segments_of n (a ∷ []) even fit = absurd (omega arith)
octets_of-segments_of zero (a ∷ b ∷ xs) even fit = absurd (omega arith)
octets_of-segments_of (suc n) (a ∷ b ∷ xs) even fit =
    let low : a < 256 = fit 0 in
    let next : b < 256 = fit 1 in
    let first : (a * 256 + b) / 256 ≡ a = omega arith in
    let second : (a * 256 + b) % 256 ≡ b = omega arith in
    let rest = octets_of-segments_of n xs (omega arith) (λ k. fit (suc (suc k))) in
    rw (first, second, rest)

-- segments of 16 bits, as octets and back
pub segments_of-octets_of : (xs : List ℕ) → segments_of (octets_of xs) ≡ xs
segments_of-octets_of [] = refl
segments_of-octets_of (s ∷ xs) =
    let whole : s / 256 * 256 + s % 256 ≡ s = omega arith in
    rw (whole, segments_of-octets_of xs)

pub length-segments_of : (n : ℕ) (xs : List ℕ) → length xs ≡ 2 * n → length (segments_of xs) ≡ n
length-segments_of n [] even = omega arith
length-segments_of n (a ∷ []) even = absurd (omega arith)
length-segments_of zero (a ∷ b ∷ xs) even = absurd (omega arith)
length-segments_of (suc n) (a ∷ b ∷ xs) even =
    let rest = length-segments_of n xs (omega arith) in
    omega arith

pub segments_below : (xs : List ℕ) → ((k : ℕ) → slice_index xs k < 256) → (k : ℕ) → slice_index (segments_of xs) k < 2 ^ 16
segments_below [] fit k = omega arith
segments_below (a ∷ []) fit k = omega arith
segments_below (a ∷ b ∷ xs) fit k =
    let low : a < 256 = fit 0 in
    let next : b < 256 = fit 1 in
    let rest = segments_below xs (λ j. fit (suc (suc j))) in
    elim k as (λ j. slice_index ((a * 256 + b) ∷ segments_of xs) j < 2 ^ 16) [ zero ↦ omega arith | suc j ↦ rest j ]

-- four numbers below 256, read at any place
pub four_below : (a b c d k : ℕ) → a < 256 → b < 256 → c < 256 → d < 256 → slice_index (a ∷ b ∷ c ∷ d ∷ []) k < 256
four_below a b c d zero h₀ h₁ h₂ h₃ = h₀
four_below a b c d (suc zero) h₀ h₁ h₂ h₃ = h₁
four_below a b c d (suc (suc zero)) h₀ h₁ h₂ h₃ = h₂
four_below a b c d (suc (suc (suc zero))) h₀ h₁ h₂ h₃ = h₃
four_below a b c d (suc (suc (suc (suc k)))) h₀ h₁ h₂ h₃ = omega arith
