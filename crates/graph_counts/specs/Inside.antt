-- How names and their counts are kept.
use Rattle.std.specs.Prelude.{◌≡◌}
use Rattle.graph_rules.specs.State.{Known}
use Rattle.graph_counts.specs.declared.counted.CountedNames.TheInside.{Inside}
use Rattle.graph_counts.specs.Counted.{network_of}
use Rattle.graph_counts.specs.Sound.{IsSound}
use Rattle.graph_counts.specs.Told.{HasFewClaims}

abbrev pub known_of : Inside → Known
known_of g = record { rows = g.rows; vlans = g.vlans; names = g.names; radio = g.radio }

-- what is known is sound, no name has more claims than a node may have, and the counted graph has the
-- network of what is known
pub record IsTied (g : Inside) : Type 0 where
  pub sound : IsSound (known_of g)
  pub few : HasFewClaims g.names
  pub counts : g.counts ≡ network_of (known_of g)
