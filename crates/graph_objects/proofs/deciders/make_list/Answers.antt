use Rattle.std.proofs.Common.{ap, ◌∙◌}
use Rattle.graph_objects.specs.Deciders.{slots_of}
use Rattle.graph_objects.proofs.DeciderLemmas.{slots_with_empty}
use Rattle.graph_objects.proofs.deciders.make_list.Goals as goal

pub loop-alloc-preserved : goal.loop-alloc-preserved
loop-alloc-preserved c n = ap (λ ls. slots_of ls n) c.in_ok-push.ensures.items ∙ slots_with_empty c.loop-alloc.by_id.items c.new.result n c.new.ensures.items ∙ c.loop-alloc.invariant n

pub returns-in_err-push-clause-same : goal.returns-in_err-push-clause-same
returns-in_err-push-clause-same c n = ap (λ ls. slots_of ls n) c.in_err-push.ensures.items ∙ c.loop-alloc.invariant n
