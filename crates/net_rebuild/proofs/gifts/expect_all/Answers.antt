use Rattle.std.proofs.Common.{take, take_all, List, subst}
use Rattle.net_rows.specs.declared.rows.InterfaceRow.{InterfaceRow}
use Rattle.net_rebuild.proofs.NameLemmas.{none_taken}
use Rattle.net_rebuild.proofs.GiftLemmas.{HaveRoom, no_row_room, row_room_more, room_for_all}
use Rattle.net_rebuild.proofs.gifts.expect_all.Goals as goal

pub loop-row-init : goal.loop-row-init
loop-row-init c = no_row_room c.args.inputs.now (take 0 c.args.rows.now) c.args.gifts.now (none_taken c.args.rows.now)

pub loop-row-preserved : goal.loop-row-preserved
loop-row-preserved c = row_room_more c.args.inputs.now c.args.rows.now c.args.gifts.now c.loop-row.gifts c.expect_row.new.gifts c.loop-row.row-index c.row-item.result c.loop-row-test.true c.row-item.is c.loop-row.invariant
    c.in_ok-expect_row.ensures.room c.in_ok-expect_row.ensures.more

pub returns-clause-room : goal.returns-clause-room
returns-clause-room c =
    room_for_all c.args.inputs.now c.args.rows.now c.args.gifts.now c.loop-row.gifts c.requires.rows c.requires.few
    (subst (λ (rows : List InterfaceRow). HaveRoom c.args.inputs.now rows c.args.gifts.now c.loop-row.gifts) (take_all c.loop-row.row-index c.args.rows.now c.loop-row-test.false) c.loop-row.invariant)

pub returns-clause-more : goal.returns-clause-more
returns-clause-more c = c.loop-row.invariant.more
