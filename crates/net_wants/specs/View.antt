-- What is used, as the program keeps it.
use Rattle.std.specs.Prelude.{ℕ, List, ◌&&◌}
use Rattle.std.specs.List.{list_any}
use Rattle.std.specs.BTreeSet.{BTreeSet}
use Rattle.net_rules.specs.declared.inputs.Inputs.{Inputs}
use Rattle.net_rules.specs.Facts.{Facts}
use Rattle.net_rules.specs.Levels.{by_levels}
use Rattle.net_rules.specs.Rows.{names_of, interfaces_of}
use Rattle.net_rules.specs.Standing.{stands}
use Rattle.net_rules.specs.Used.{uses, serves_at}
use Rattle.net_rules.specs.Inputs.{facts_of}
use Rattle.net_view.specs.Names.{HasNames}
use Rattle.net_view.specs.Levels.{AreLevelsOf}
use Rattle.net_wants.specs.declared.view.View.{View}

-- the names that interfaces use
abbrev pub AreClaimed : Inputs → BTreeSet (List ℕ) → Type 0
AreClaimed inputs names = HasNames names (λ q. list_any (uses (facts_of inputs) q) (interfaces_of inputs.conf))

-- the names on which a name stands that is used, as the answer looks so many levels up
abbrev pub HasAbove : Facts → ℕ → BTreeSet (List ℕ) → Type 0
HasAbove facts levels names = HasNames names
    (λ q. list_any (λ upper. stands facts q upper && by_levels levels (serves_at facts) upper) (names_of facts.conf))

-- the levels, and what is used, are those of the inputs
pub record IsViewOf (inputs : Inputs) (view : View) : Type 0 where
  pub levels : AreLevelsOf inputs view.levels
  pub claimed : AreClaimed inputs view.claimed
  pub under : HasAbove (facts_of inputs) 7 view.under
