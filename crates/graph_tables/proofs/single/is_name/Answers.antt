use Rattle.kern_model.proofs.TestLemmas.{bytes_same, same_bytes, true_of_both_ways}
use Rattle.graph_tables.proofs.single.is_name.Goals as goal

pub returns : goal.returns
returns c = true_of_both_ways c.same.result _ (λ h. same_bytes c.args.name.now c.args.other.now (c.same.ensures.0 h)) (λ h. c.same.ensures.1 (bytes_same c.args.name.now c.args.other.now h))
