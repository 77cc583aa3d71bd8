-- Numbers that are given in order.
use Rattle.std.proofs.Common.{ℕ, ◌≡◌, ◌≤◌, ◌+◌, ◌-◌, min, List, length, slice_index, ap, arith, ⊎_elim}
use Rattle.std.proofs.lemmas.Bool.{cases_lt}
use Rattle.plane_outside.specs.Given.{nth_or_last, NeverFalls}

-- each number is at least the one before it
pub rises : (numbers : List ℕ) → NeverFalls numbers → (k : ℕ) → nth_or_last numbers k ≤ nth_or_last numbers (k + 1)
rises numbers never k = ⊎_elim
    (λ within.
    let here : min k (length numbers - 1) ≡ k = omega (arith, within) in
    let next : min (k + 1) (length numbers - 1) ≡ k + 1 = omega (arith, within) in
    omega (arith, never k within, ap (slice_index numbers) here, ap (slice_index numbers) next))
    (λ past.
    let same : min k (length numbers - 1) ≡ min (k + 1) (length numbers - 1) = omega (arith, past) in
    omega (arith, ap (slice_index numbers) same))
    (cases_lt (k + 1) (length numbers))
