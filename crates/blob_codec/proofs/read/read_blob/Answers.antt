use Rattle.blob_codec.proofs.LawLemmas.{only_found}
use Rattle.blob_codec.proofs.read.read_blob.Goals as goal

pub returns-clause-only : goal.returns-clause-only
returns-clause-only c = only_found _ _ _ c.read_attrs.ensures.found
