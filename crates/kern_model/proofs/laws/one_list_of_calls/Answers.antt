use Rattle.plane_words.proofs.OrderLemmas.{one_list}
use Rattle.kern_model.specs.Touched.{is_call}
use Rattle.kern_model.proofs.OrderLemmas.{calls_total, calls_apart}
use Rattle.kern_model.proofs.laws.one_list_of_calls.Goals as goal

pub returns : goal.returns
returns c devices held wanted xs ys a b = one_list (calls_total held wanted) (is_call devices held wanted) xs ys (calls_apart held wanted) a b
