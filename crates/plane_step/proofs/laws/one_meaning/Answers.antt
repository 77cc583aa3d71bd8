use Rattle.plane_step.proofs.ReadingLemmas.{one_answer}
use Rattle.plane_step.proofs.MeaningLemmas.{one_meaning}
use Rattle.plane_step.proofs.laws.one_meaning.Goals as goal

pub returns : goal.returns
returns c =
    one_meaning (one_answer c.one_address.ensures c.one_cidr.ensures) c.one_package.ensures
    c.no_package_with_fault.ensures
