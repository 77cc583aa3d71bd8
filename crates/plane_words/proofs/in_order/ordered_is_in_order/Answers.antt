use Rattle.plane_words.proofs.OrderedLemmas.{ordered_lists}
use Rattle.plane_words.proofs.in_order.ordered_is_in_order.Goals as goal

pub returns : goal.returns
returns g c cmp member items total apart = ordered_lists total apart member items
