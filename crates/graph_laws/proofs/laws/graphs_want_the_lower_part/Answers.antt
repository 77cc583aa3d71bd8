use Rattle.graph_laws.proofs.DeviceLemmas.{same_devices}
use Rattle.graph_laws.proofs.LowerLemmas.{lower_part_wanted, given_wanted, links_lower}
use Rattle.graph_laws.proofs.laws.graphs_want_the_lower_part.Goals as goal

pub returns : goal.returns
returns c = record { wants = lower_part_wanted; given = given_wanted; devices = same_devices; links = links_lower }
