use Rattle.blob_codec.specs.declared.blob.TheConstants.{MOST_LEVELS}
use Rattle.blob_codec.proofs.LawLemmas.{not_both}
use Rattle.blob_codec.proofs.laws.no_reading_with_fault.Goals as goal

pub returns : goal.returns
returns c = λ bytes error attrs f s. not_both MOST_LEVELS 0 bytes error attrs f s
