use Rattle.std.proofs.Common.{◌+◌, length, arith}
use Rattle.blob_codec.specs.declared.blob.TheConstants.{MOST_LEVELS}
use Rattle.blob_codec.proofs.TotalLemmas.{total}
use Rattle.blob_codec.proofs.laws.reading_or_fault.Goals as goal

pub returns : goal.returns
returns c = λ bytes. total (length bytes + 1) MOST_LEVELS 0 bytes (omega arith)
