use Rattle.std.proofs.Common.{rules, arith}
use Rattle.kern_model.proofs.NameLemmas.{stored_of}
use Rattle.kern_model.proofs.name.read_name.Goals as goal

pub invariant_of-result : goal.invariant_of-result
invariant_of-result c = stored_of c.args.text.now _ c.copy_from_slice.ensures.after (search (rules, arith)) (search (rules, arith))
