use Rattle.ubus_frames.proofs.DivisionLemmas.{fed}
use Rattle.ubus_frames.proofs.laws.fed_bytes.Goals as goal

pub returns : goal.returns
returns c = λ bytes piece before after a h. fed bytes piece before after a h
