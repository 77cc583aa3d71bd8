-- Rows, names and VLANs of bridges that are sound together.
use Rattle.net_rules.specs.Sound.{HasSoundVlans}
use Rattle.graph_rules.specs.State.{Known}
use Rattle.graph_counts.specs.Sound.{conf_of, IsSound}

-- rows, names, ports of radios and VLANs of bridges are sound
pub record IsWhole (s : Known) : Type 0 where
  pub names : IsSound s
  pub vlans : HasSoundVlans (record (conf_of s.rows) { vlans = s.vlans })
