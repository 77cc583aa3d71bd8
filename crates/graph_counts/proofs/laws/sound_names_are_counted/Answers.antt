use Rattle.graph_counts.proofs.SoundLemmas.{has_ids}
use Rattle.graph_counts.proofs.TieLemmas.{is_counted}
use Rattle.graph_counts.proofs.laws.sound_names_are_counted.Goals as goal

pub returns-clause-ids : goal.returns-clause-ids
returns-clause-ids c = has_ids

pub returns-clause-counted : goal.returns-clause-counted
returns-clause-counted c = is_counted
