-- A test that asks only about names of a lower rank answers as what it asks says, where the levels are enough.
use Rattle.std.proofs.Common.{arith, ℕ, zero, suc, ◌≡◌, ◌<◌, List, Bool}
use Rattle.net_rules.specs.Levels.{by_levels}

-- what is asked about names of a lower rank alone decides the answer
abbrev pub IsLocal : ((List ℕ → Bool) → List ℕ → Bool) → (List ℕ → ℕ) → Type 0
IsLocal step rank = (f g : List ℕ → Bool) (name : List ℕ) → ((other : List ℕ) → rank other < rank name → f other ≡ g other) → step f name ≡ step g name

module _ (step : (List ℕ → Bool) → List ℕ → Bool) (rank : List ℕ → ℕ) (local : IsLocal step rank) where
  enough : (k j : ℕ) (name : List ℕ) → rank name < k → rank name < j → by_levels k step name ≡ by_levels j step name
  unfolding by_levels
  enough zero j name p q = absurd (omega arith)
  enough (suc k) zero name p q = absurd (omega arith)
  enough (suc k) (suc j) name p q = local (by_levels k step) (by_levels j step) name (λ other h. enough k j other (omega arith) (omega arith))

  pub follows : ((name : List ℕ) → rank name < 8) → (name : List ℕ) → by_levels 8 step name ≡ step (by_levels 8 step) name
  unfolding by_levels
  follows few name = let within = few name in enough 8 9 name within (omega arith)
