use Rattle.ubus_frames.proofs.OnceLemmas as once
use Rattle.ubus_frames.proofs.StreamLemmas.{fault_front}
use Rattle.ubus_frames.proofs.laws.one_frame_fault.Goals as goal

pub returns-clause-only : goal.returns-clause-only
returns-clause-only c = λ bytes error other f g. once.one_frame_fault bytes error other f g

pub returns-clause-no_frame : goal.returns-clause-no_frame
returns-clause-no_frame c = λ bytes error frame f b. once.frame_clash bytes error frame f b

pub returns-clause-not_unfinished : goal.returns-clause-not_unfinished
returns-clause-not_unfinished c = λ bytes error f u. once.unfinished_clash bytes error f u

pub returns-clause-stands : goal.returns-clause-stands
returns-clause-stands c = λ bytes more error f. fault_front bytes more error f
