use Rattle.kern_model.proofs.SetLemmas.{test_of_same}
use Rattle.kern_model.proofs.object.Object.is.Goals as goal

pub returns : goal.returns
returns c = test_of_same c.same.result c.args.self.now c.args.other.now c.same.ensures.0 c.same.ensures.1
