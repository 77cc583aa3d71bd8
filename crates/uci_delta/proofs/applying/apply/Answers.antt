use Rattle.std.proofs.lemmas.Result.{on_ok_weaker}
use Rattle.uci_delta.proofs.ValidLemmas.{left_valid_package}
use Rattle.uci_delta.proofs.applying.apply.Goals as goal

pub returns-clause-valid : goal.returns-clause-valid
returns-clause-valid c = on_ok_weaker c.change-changed.result (λ e v. left_valid_package c.args.«package».now c.args.delta.now _ _ _ _ _ c.into_vec-sections.ensures c.replace.ensures.value c.from_vec.ensures e v)
    c.change-changed.ensures.done
