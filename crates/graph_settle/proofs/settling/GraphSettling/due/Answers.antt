use Rattle.std.proofs.Common.{arith}
use Rattle.given_objects.proofs.DueLemmas.{alone_few, due_of_gifts}
use Rattle.graph_settle.proofs.SettlingStateLemmas.{due_is}
use Rattle.graph_settle.proofs.settling.GraphSettling.due.Goals as goal

pub overflow_add-result : goal.overflow_add-result
overflow_add-result c = omega (arith, c.due-below.ensures.few, c.due-above.ensures, due_of_gifts c.args.self.now.gifts c.are_gifts.ensures.once, alone_few c.args.self.now.gifts, c.len-gifts.ensures.length, c.len-gifts.ensures.few)

pub returns : goal.returns
returns c = omega (arith, c.due-below.ensures.due, c.due-above.ensures, due_is c.args.self.now c.are_gifts.ensures c.requires.lower)
