use Rattle.std.proofs.lemmas.List.{nil_from_length}
use Rattle.uci_text.proofs.GapLemmas.{gap_blank, gap_comment, gap_done, gap_ends}
use Rattle.uci_text.proofs.gap.behind_gap.Goals as goal

pub returns-in_default : goal.returns-in_default
returns-in_default c = gap_ends _ _ (gap_blank _ _ _ _ c.loop-mark.invariant c.split.ensures) (nil_from_length _ c.in_default.ensures.cases)

pub returns-then-mark-ne35 : goal.returns-then-mark-ne35
returns-then-mark-ne35 c = gap_done _ _ _ _ (gap_blank _ _ _ _ c.loop-mark.invariant c.split.ensures) c.split.ensures.outside c.in-Some.ensures.cases.0 c.if-mark-ne35.true

pub loop-mark-preserved : goal.loop-mark-preserved
loop-mark-preserved c = gap_comment _ _ _ _ _ _ (gap_blank _ _ _ _ c.loop-mark.invariant c.split.ensures) c.in-Some.ensures.cases.0 c.if-mark-ne35.false c.split-in-loop-mark.ensures
