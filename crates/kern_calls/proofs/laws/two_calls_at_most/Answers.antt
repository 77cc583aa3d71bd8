use Rattle.std.proofs.Common.{sym, ◌∙◌}
use Rattle.kern_calls.specs.Counted.{takes, puts}
use Rattle.kern_calls.proofs.KeptLemmas.{one_passes, one_put, one_take, touched_call}
use Rattle.kern_calls.proofs.laws.two_calls_at_most.Goals as goal

pub returns-clause-takes : goal.returns-clause-takes
returns-clause-takes c devices held wanted calls o are = one_passes held wanted (takes o) calls are.sorted (λ a b m n h g. one_take devices held wanted o a (are.sound a m) h ∙ sym (one_take devices held wanted o b (are.sound b n) g))

pub returns-clause-puts : goal.returns-clause-puts
returns-clause-puts c devices held wanted calls o are = one_passes held wanted (puts o) calls are.sorted (λ a b m n h g. one_put o a b h g)

pub returns-clause-none : goal.returns-clause-none
returns-clause-none c devices held wanted calls call are member = touched_call devices held wanted call (are.sound call member)
