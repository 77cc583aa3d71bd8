use Rattle.ubus_frames.proofs.DivisionLemmas.{one_way, reached}
use Rattle.ubus_frames.proofs.laws.divided_however_cut.Goals as goal

pub returns-clause-divided : goal.returns-clause-divided
returns-clause-divided c = λ bytes taken now r. reached bytes taken now r

pub returns-clause-alone : goal.returns-clause-alone
returns-clause-alone c = λ bytes taken other now end r s. one_way bytes _ _ _ _ (reached bytes taken now r) (reached bytes other end s)
