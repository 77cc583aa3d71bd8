use Rattle.std.proofs.Common.{◌+◌, ◌*◌, length}
use Rattle.blob_codec.specs.Found.{SoFar}
use Rattle.blob_codec.proofs.read.+read.Given as goal

abbrev pub decreases-read_attrs : goal.decreases-read_attrs
decreases-read_attrs l = l.levels * 3 + 2

abbrev pub decreases-read_inner : goal.decreases-read_inner
decreases-read_inner l = l.levels * 3

abbrev pub decreases-read_value : goal.decreases-read_value
decreases-read_value l = l.levels * 3 + 1

abbrev pub invariant-read_attrs-loop-rest : goal.invariant-read_attrs-loop-rest
invariant-read_attrs-loop-rest l = SoFar l.levels l.place l.at l.bytes l.rest l.attrs

abbrev pub decreases-read_attrs-loop-rest : goal.decreases-read_attrs-loop-rest
decreases-read_attrs-loop-rest l = length l.rest
