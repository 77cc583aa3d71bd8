use Rattle.uci_delta.proofs.DeltasLemmas.{reads_on, reads_last, one_list}
use Rattle.uci_delta.proofs.reading.read_deltas.Goals as goal

pub loop-part-preserved : goal.loop-part-preserved
loop-part-preserved c = reads_on _ _ _ _ _ _ _ c.loop-part.invariant c.in-Some.ensures c.in_ok-push_delta.ensures

pub returns-clause-found : goal.returns-clause-found
returns-clause-found c = reads_last _ _ _ _ _ c.loop-part.invariant c.in_default.ensures c.in_ok-push_delta-2.ensures

pub returns-clause-only : goal.returns-clause-only
returns-clause-only c = λ others o. one_list _ _ _ others (reads_last _ _ _ _ _ c.loop-part.invariant c.in_default.ensures c.in_ok-push_delta-2.ensures) o
