use Rattle.net_reach.proofs.AlikeLemmas.{answer_tells, closed_tells}
use Rattle.net_reach.proofs.laws.answers_tell_l3_devices.Goals as goal

pub returns : goal.returns
returns c = record { answer = answer_tells; closed = closed_tells }
