use Rattle.blob_codec.specs.declared.blob.TheConstants.{MOST_LEVELS}
use Rattle.blob_codec.proofs.LawLemmas.{one_list}
use Rattle.blob_codec.proofs.laws.one_reading.Goals as goal

pub returns : goal.returns
returns c = λ bytes attrs others s t. one_list MOST_LEVELS bytes attrs others s t
