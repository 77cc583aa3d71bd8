use Rattle.std.proofs.Common.{refl}
use Rattle.net_follow.specs.declared.follower.Follower.{Follower}
use Rattle.net_follow.specs.InStep.{inputs_of, IsInStep}
use Rattle.net_follow.proofs.AwaitLemmas.{on_ok, first_there, room_for}
use Rattle.net_follow.proofs.MoreLemmas.{step_more, held_same}
use Rattle.net_follow.proofs.RoomLemmas.{step_reached}
use Rattle.net_follow.proofs.follower.Follower.await_answer.Goals as goal

pub expect_answer-requires-clause-first : goal.expect_answer-requires-clause-first
expect_answer-requires-clause-first c = first_there (inputs_of c.args.self.now) c.args.self.now.states c.args.interface.now c.args.place c.requires.step.states.tied c.requires.place

pub returns-in_default-clause-step : goal.returns-in_default-clause-step
returns-in_default-clause-step c = step_more c.args.self.now c.expect_answer.new.gifts c.expect_answer.ensures.more c.requires.step

pub returns-in_default-clause-looks : goal.returns-in_default-clause-looks
returns-in_default-clause-looks c = record { inputs = refl; held = held_same c.args.self.now c.expect_answer.new.gifts c.expect_answer.ensures.more; told = refl; loads = refl }

pub returns-clause-room : goal.returns-clause-room
returns-clause-room c =
    on_ok c.reserve_l3_device.result
    (room_for c.args.self.now c.args.place c.args.interface.now c.args.number c.args.answer.now c.requires.place c.requires.free c.expect_answer.new.gifts c.reserve_l3_device.new.reach c.in-Ok.ensures.places)
    c.reserve_l3_device.ensures.room

pub returns-clause-step : goal.returns-clause-step
returns-clause-step c =
    let old : Follower = c.args.self.now in
    let with_gifts : Follower = record old { settling = record old.settling { gifts = c.expect_answer.new.gifts } } in
    let there : IsInStep with_gifts = step_more old c.expect_answer.new.gifts c.expect_answer.ensures.more c.requires.step in
    step_reached with_gifts c.reserve_l3_device.new.reach (c.reserve_l3_device.ensures.stays (inputs_of old) c.requires.step.states.tied.reach) there

pub returns-clause-looks : goal.returns-clause-looks
returns-clause-looks c = record { inputs = refl; held = held_same c.args.self.now c.expect_answer.new.gifts c.expect_answer.ensures.more; told = refl; loads = refl }
