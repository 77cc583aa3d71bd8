use Rattle.std.proofs.Common.{sym, arith, ◌∙◌}
use Rattle.std.proofs.lemmas.List.Sums.{position_or_len_is}
use Rattle.lanes_scan.proofs.search.first_by_one.Goals as goal

pub returns-then-finds_byte : goal.returns-then-finds_byte
returns-then-finds_byte g c =
    sym (position_or_len_is (g.T.ByteTest.finds c.args.test.now) c.args.bytes.now c.loop-place.place 0 (omega arith) c.loop-place.invariant (λ inside. sym c.finds_byte.ensures ∙ c.if-finds_byte.true))

pub returns : goal.returns
returns g c =
    sym (position_or_len_is (g.T.ByteTest.finds c.args.test.now) c.args.bytes.now _ 0 (omega arith) (λ k below. c.loop-place.invariant k (omega arith)) (λ inside. absurd (omega arith)))
