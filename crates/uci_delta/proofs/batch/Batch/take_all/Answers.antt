use Rattle.std.proofs.Common.{◌∙◌}
use Rattle.uci_delta.specs.Batch.{tree_of}
use Rattle.uci_delta.proofs.BatchLemmas.{err_of, one_more_applied}
use Rattle.uci_delta.proofs.batch.Batch.take_all.Goals as goal

pub returns-in_err-take-clause-front : goal.returns-in_err-take-clause-front
returns-in_err-take-clause-front c = err_of c.from_residual.result (λ name. record { count = c.loop-delta.delta-index; are = c.in_err-take.ensures.kept name ∙ c.loop-delta.invariant.1 name })

pub loop-delta-preserved : goal.loop-delta-preserved
loop-delta-preserved c = (
  c.in_ok-take.ensures.placed,
  λ name. one_more_applied (tree_of name c.args.self.now) (tree_of name c.loop-delta.self) (tree_of name c.take.new.self) c.args.deltas.now c.delta-item.result _ c.loop-delta.delta-index (c.loop-delta.invariant.1 name)
      (c.in_ok-take.ensures.done name) c.loop-delta-test.true c.delta-item.is,
)
