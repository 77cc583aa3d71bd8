use Rattle.std.specs.Option.{option_copied}
use Rattle.net_rebuild.specs.Room.{GivesFew}
use Rattle.net_rebuild.proofs.GiftLemmas.{row_room, on_ok}
use Rattle.net_rebuild.proofs.gifts.expect_row.Goals as goal

pub returns-then-not-needs_no_answer-clause-room : goal.returns-then-not-needs_no_answer-clause-room
returns-then-not-needs_no_answer-clause-room c =
    let few : GivesFew c.args.row.now (option_copied c.answer_of.result) = c.is_few.ensures c.if-not-is_few.false in
    let same = c.needs_no_answer.ensures c.args.inputs.now c.answer_of-2.ensures in
    row_room c.args.inputs.now c.args.row.now (option_copied c.answer_of.result) c.args.gifts.now c.answer_of.ensures c.requires.few few
    (λ needs o member. cc (needs, same, c.if-not-needs_no_answer.true))

pub returns-clause-room : goal.returns-clause-room
returns-clause-room c =
    let few : GivesFew c.args.row.now (option_copied c.answer_of.result) = c.is_few.ensures c.if-not-is_few.false in
    on_ok c.expect_l3_device.result
    (λ places. row_room c.args.inputs.now c.args.row.now (option_copied c.answer_of.result) c.expect_l3_device.new.gifts c.answer_of.ensures c.requires.few few (λ needs. places))
    c.expect_l3_device.ensures.places
