-- The numbers of open requests.
use Rattle.std.specs.Prelude.{ℕ, ◌+◌, ◌^◌, ◌<◌, ◌≤◌, List, [], ◌∷◌, map, Contains, ⊤}
use Rattle.net_rules.specs.declared.inputs.Inputs.{Inputs}

-- numbers that rise, from a least one on and below a bound
abbrev pub AreRising : ℕ → ℕ → List ℕ → Type 0
AreRising least bound [] = ⊤
AreRising least bound (n ∷ ns) = (least ≤ n) × (n < bound) × AreRising (n + 1) bound ns

abbrev pub interface_numbers : Inputs → List ℕ
interface_numbers inputs = map (λ o. o.number) inputs.interfaces

abbrev pub radio_numbers : Inputs → List ℕ
radio_numbers inputs = map (λ o. o.number) inputs.radios

-- Each open request has a number of its own, from 1 and below the next. The requests of interfaces stand by
-- rising number, and so do those of radios.
pub record AreNumbered (inputs : Inputs) : Type 0 where
  pub interfaces : AreRising 1 inputs.next (interface_numbers inputs)
  pub radios : AreRising 1 inputs.next (radio_numbers inputs)
  pub apart : (n : ℕ) → Contains (interface_numbers inputs) n → Contains (radio_numbers inputs) n
      → ⊥

-- Numbers are counted without end here. Who counts them in words of 64 bits has this premise: the
-- next one is below 2 ^ 63. An event raises it by no more than there are interfaces and radios.
pub record AreCountable (inputs : Inputs) : Type 0 where
  pub below : inputs.next < 2 ^ 63
