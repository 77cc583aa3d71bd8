use Rattle.std.proofs.lemmas.Result.{on_ok_weaker, on_err_weaker}
use Rattle.uci_delta.proofs.BatchLemmas.{whole_done, whole_front, valid_either}
use Rattle.uci_delta.proofs.batch.apply_all.Goals as goal

pub returns-clause-done : goal.returns-clause-done
returns-clause-done c = on_ok_weaker c.take_all-applied.result (λ h. whole_done c.args.«package».now c.args.deltas.now _ _ _ _ _ c.into_vec-sections.ensures c.replace.ensures.value c.from_vec.ensures h) c.take_all-applied.ensures.done

pub returns-clause-front : goal.returns-clause-front
returns-clause-front c = on_err_weaker c.take_all-applied.result (λ h. whole_front c.args.«package».now c.args.deltas.now _ _ _ _ _ c.into_vec-sections.ensures c.replace.ensures.value c.from_vec.ensures h) c.take_all-applied.ensures.front

pub returns-clause-valid : goal.returns-clause-valid
returns-clause-valid c =
    valid_either c.args.«package».now _ c.args.deltas.now c.take_all-applied.result
    (on_ok_weaker c.take_all-applied.result (λ h. whole_done c.args.«package».now c.args.deltas.now _ _ _ _ _ c.into_vec-sections.ensures c.replace.ensures.value c.from_vec.ensures h) c.take_all-applied.ensures.done)
    (on_err_weaker c.take_all-applied.result (λ h. whole_front c.args.«package».now c.args.deltas.now _ _ _ _ _ c.into_vec-sections.ensures c.replace.ensures.value c.from_vec.ensures h) c.take_all-applied.ensures.front)
