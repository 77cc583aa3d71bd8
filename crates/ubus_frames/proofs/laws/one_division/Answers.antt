use Rattle.ubus_frames.proofs.DivisionLemmas.{a_way, one_way}
use Rattle.ubus_frames.proofs.laws.one_division.Goals as goal

pub returns-clause-there : goal.returns-clause-there
returns-clause-there c = λ bytes. a_way bytes

pub returns-clause-only : goal.returns-clause-only
returns-clause-only c = λ bytes frames others rest end d e. one_way bytes frames others rest end d e
