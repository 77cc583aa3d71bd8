use Rattle.uci_store.proofs.BatchLemmas.{one_taken, one_refused}
use Rattle.uci_store.proofs.batch.take_all.Goals as goal

pub loop-delta-preserved : goal.loop-delta-preserved
loop-delta-preserved c = one_taken c.args.tree.now c.loop-delta.tree c.apply.new.«package» c.args.deltas.now c.delta-item.result _ c.loop-delta.delta-index c.loop-delta-test.true c.delta-item.is c.loop-delta.invariant c.in-Ok.ensures.done

pub returns-in-Err-clause-refused : goal.returns-in-Err-clause-refused
returns-in-Err-clause-refused c = one_refused c.args.tree.now c.loop-delta.tree c.args.deltas.now c.delta-item.result _ c.in-Err.error c.loop-delta.delta-index c.loop-delta-test.true c.delta-item.is c.loop-delta.invariant
    c.in-Err.ensures.refused
