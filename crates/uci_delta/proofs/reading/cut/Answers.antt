use Rattle.uci_delta.proofs.PartLemmas.{part_begins, cut_here, no_cut_here}
use Rattle.uci_delta.proofs.reading.cut.Goals as goal

pub loop-at-init : goal.loop-at-init
loop-at-init c = part_begins c.args.bytes.now

pub returns-then-is_cut : goal.returns-then-is_cut
returns-then-is_cut c = cut_here _ _ _ _ c.loop-at.invariant c.loop-at-test.true c.is_cut.ensures c.if-is_cut.true

pub returns : goal.returns
returns c = no_cut_here _ _ _ c.loop-at.invariant c.loop-at-test.false
