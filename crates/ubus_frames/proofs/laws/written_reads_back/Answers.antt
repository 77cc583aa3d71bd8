use Rattle.ubus_frames.specs.Written.{written_frame}
use Rattle.ubus_frames.proofs.BackLemmas.{frame_spelled}
use Rattle.ubus_frames.proofs.OneLemmas.{one_frame}
use Rattle.ubus_frames.proofs.laws.written_reads_back.Goals as goal

pub returns-clause-spells : goal.returns-clause-spells
returns-clause-spells c = λ frame f t. frame_spelled frame f t

pub returns-clause-only : goal.returns-clause-only
returns-clause-only c = λ frame other f t s. one_frame (written_frame frame) frame other (frame_spelled frame f t) s
