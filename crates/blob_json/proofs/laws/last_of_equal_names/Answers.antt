use Rattle.blob_json.proofs.NameLemmas.{last_counts}
use Rattle.blob_json.proofs.laws.last_of_equal_names.Goals as goal

pub returns : goal.returns
returns c = λ name attrs. last_counts name attrs
