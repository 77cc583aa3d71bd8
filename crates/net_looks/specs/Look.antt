-- What a look is of.
use Rattle.net_rules.specs.Facts.{Facts}
use Rattle.net_rules.specs.Inputs.{facts_of}
use Rattle.graph_laws.specs.Knowing.{KnowsRows}
use Rattle.graph_laws.specs.Below.{AgreesBelow}
use Rattle.net_reach.specs.Reach.{IsReachOf}
use Rattle.net_looks.specs.declared.look.Look.{Look}

-- the facts of the inputs that are looked at
abbrev pub facts_at : Look → Facts
facts_at look = facts_of look.inputs.now.inputs

-- What reaches what is that of the inputs. The graph agrees with their facts, whatever its claims are,
-- and knows the names of its rows.
pub record IsLookOf (look : Look) : Type 0 where
  pub reaches : IsReachOf look.inputs.now.inputs look.reach.now
  pub agrees : AgreesBelow (facts_at look) look.graph.now.known
  pub knows : KnowsRows look.graph.now.known
