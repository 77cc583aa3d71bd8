use Rattle.blob_codec.specs.declared.blob.TheConstants.{MOST_LEVELS}
use Rattle.blob_codec.specs.Written.{written}
use Rattle.blob_codec.proofs.LawLemmas.{one_list}
use Rattle.blob_codec.proofs.SpellingLemmas.{spelled}
use Rattle.blob_codec.proofs.laws.written_reads_back.Goals as goal

pub returns-clause-spells : goal.returns-clause-spells
returns-clause-spells c = λ attrs f. spelled MOST_LEVELS attrs f

pub returns-clause-only : goal.returns-clause-only
returns-clause-only c = λ attrs others f s. one_list MOST_LEVELS (written attrs) attrs others (spelled MOST_LEVELS attrs f) s
