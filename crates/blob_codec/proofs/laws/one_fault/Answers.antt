use Rattle.blob_codec.specs.declared.blob.TheConstants.{MOST_LEVELS}
use Rattle.blob_codec.proofs.LawLemmas.{one_first}
use Rattle.blob_codec.proofs.laws.one_fault.Goals as goal

pub returns : goal.returns
returns c = λ bytes error other f g. one_first MOST_LEVELS 0 bytes error other f g
