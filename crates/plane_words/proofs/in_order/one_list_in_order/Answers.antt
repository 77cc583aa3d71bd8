use Rattle.plane_words.proofs.OrderLemmas.{one_list}
use Rattle.plane_words.proofs.in_order.one_list_in_order.Goals as goal

pub returns : goal.returns
returns g c cmp member xs ys total = one_list total member xs ys
