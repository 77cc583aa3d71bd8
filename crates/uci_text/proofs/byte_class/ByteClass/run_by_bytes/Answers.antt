use Rattle.std.proofs.Common.{sym, arith, ◌∙◌}
use Rattle.std.proofs.lemmas.List.Sums.{prefix_len_is}
use Rattle.uci_text.specs.ByteClass.{is_in}
use Rattle.uci_text.proofs.byte_class.ByteClass.run_by_bytes.Goals as goal

pub returns-then-not-contains : goal.returns-then-not-contains
returns-then-not-contains c =
    sym (prefix_len_is (is_in c.args.self) c.args.bytes.now c.loop-at.at 0 (omega arith) c.loop-at.invariant (λ inside. sym c.contains.ensures ∙ c.if-not-contains.true))

pub returns : goal.returns
returns c =
    sym (prefix_len_is (is_in c.args.self) c.args.bytes.now _ 0 (omega arith) (λ k below. c.loop-at.invariant k (omega arith)) (λ inside. absurd (omega arith)))
