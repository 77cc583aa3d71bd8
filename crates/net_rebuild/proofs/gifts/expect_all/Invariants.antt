use Rattle.std.proofs.Common.{take}
use Rattle.net_rebuild.proofs.GiftLemmas.{HaveRoom}
use Rattle.net_rebuild.proofs.gifts.expect_all.Given as goal

-- there is room for the rows so far
abbrev pub invariant-loop-row : goal.invariant-loop-row
invariant-loop-row l = HaveRoom l.inputs (take l.row-index l.rows) l.initial.gifts l.gifts
