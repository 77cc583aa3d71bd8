use Rattle.std.proofs.Common.{arith, sym}
use Rattle.std.proofs.lemmas.Bool.{ne_eqb}
use Rattle.rpc_session.proofs.PatternLemmas.{star_split, byte_split}
use Rattle.rpc_session.proofs.pattern.read_front.Goals as goal

pub returns-then-byte-eq42-clause-star : goal.returns-then-byte-eq42-clause-star
returns-then-byte-eq42-clause-star c rest left same =
    let found = star_split c.args.pattern.now c.args.text.now c.loop-byte.tail.now c.loop-byte.ending.now c.in-Some.rest.now c.in-Some.byte.now c.loop-byte.invariant c.in-Some.ensures.cases.0 c.if-byte-eq42.true in
    grind (arith, found, same)

pub loop-byte-preserved : goal.loop-byte-preserved
loop-byte-preserved c =
    byte_split c.args.pattern.now c.args.text.now c.loop-byte.tail.now c.loop-byte.ending.now c.in-Some.rest.now c.in-Some-split_first.left.now c.in-Some.byte.now c.in-Some-split_first.first.now c.loop-byte.invariant
    c.in-Some.ensures.cases.0 c.in-Some-split_first.ensures.cases.0 (ne_eqb c.in-Some.byte.now 42 c.if-byte-eq42.false) (sym c.if-not-passes.ensures)
