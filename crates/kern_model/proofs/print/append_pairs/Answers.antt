use Rattle.std.proofs.Common.{arith, ◌-◌, take, drop, length}
use Rattle.kern_model.proofs.PairLemmas.{one_more_pair, all_pairs}
use Rattle.kern_model.proofs.print.append_pairs.Goals as goal

pub loop-byte-preserved : goal.loop-byte-preserved
loop-byte-preserved c = record {
  written = one_more_pair (take c.append_text-end.result c.append_text-end.new.into) _ _ _ c.hex_pair-in-loop-byte.result (take (length c.args.bytes.now - 1) (drop 1 c.args.bytes.now)) c.loop-byte.byte-index
      c.loop-byte.invariant.written c.append_text-end-in-loop-byte.ensures.written c.append_text-end-in-loop-byte-2.ensures.written c.hex_pair-in-loop-byte.ensures c.loop-byte-test.true;
  fits = omega (arith, c.append_text-end-in-loop-byte-2.ensures.end, c.append_text-end-in-loop-byte.ensures.end);
}

pub returns-clause-written : goal.returns-clause-written
returns-clause-written c =
    all_pairs (take c.args.at c.args.into.now) _ _ c.hex_pair.result c.args.bytes.now c.loop-byte.byte-index
    c.loop-byte.invariant.written c.append_text-end.ensures.written c.hex_pair.ensures c.in-len1-up.len_at_least c.loop-byte-test.false
