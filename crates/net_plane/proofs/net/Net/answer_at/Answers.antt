use Rattle.std.proofs.Common.{ap, sym, ◌∙◌}
use Rattle.std.specs.Prelude.{slice_get}
use Rattle.net_rules.specs.declared.inputs.Inputs.{Inputs}
use Rattle.net_rules.specs.declared.event.Event.TheVariants as event
use Rattle.net_reach.specs.Reach.{interface_place}
use Rattle.net_plane.specs.Network.{Network}
use Rattle.net_plane.proofs.SeenLemmas.{free_below, same_seen}
use Rattle.net_plane.proofs.EventLemmas.{after_followed, kernel_followed, loads_followed}
use Rattle.net_plane.proofs.net.Net.answer_at.Goals as goal

pub await_answer-requires-clause-place : goal.await_answer-requires-clause-place
await_answer-requires-clause-place c = ap (λ (n : Network). interface_place n.inputs.conf c.args.interface) c.self.view_is ∙ c.requires.place

pub await_answer-requires-clause-free : goal.await_answer-requires-clause-free
await_answer-requires-clause-free c = free_below c.args.self.now c.self.inside.follower c.self.view_is (event.Answer c.args.interface c.args.number c.args.answer) c.requires.free

pub answer-requires-clause-told : goal.answer-requires-clause-told
answer-requires-clause-told c =
    let view = same_seen c.args.self.now c.self.inside.follower c.self.view_is c.await_answer.new.self c.await_answer.ensures.looks in
    ap (λ (n : Network). n.notices) view ∙ c.requires.told

pub answer-requires-clause-place : goal.answer-requires-clause-place
answer-requires-clause-place c =
    let view = same_seen c.args.self.now c.self.inside.follower c.self.view_is c.await_answer.new.self c.await_answer.ensures.looks in
    ap (λ (n : Network). interface_place n.inputs.conf c.args.interface) view ∙ c.requires.place

pub answer-requires-clause-free : goal.answer-requires-clause-free
answer-requires-clause-free c =
    let view = same_seen c.args.self.now c.self.inside.follower c.self.view_is c.await_answer.new.self c.await_answer.ensures.looks in
    free_below c.args.self.now c.await_answer.new.self view (event.Answer c.args.interface c.args.number c.args.answer) c.requires.free

pub answer-requires-clause-room : goal.answer-requires-clause-room
answer-requires-clause-room c = λ row at. c.in-Ok.ensures.room row (ap (λ (i : Inputs). slice_get i.conf.interfaces c.args.place) (sym c.await_answer.ensures.looks.inputs) ∙ at)

pub returns-clause-ok : goal.returns-clause-ok
returns-clause-ok c =
    let view = same_seen c.args.self.now c.self.inside.follower c.self.view_is c.await_answer.new.self c.await_answer.ensures.looks in
    after_followed c.args.self.now (event.Answer c.args.interface c.args.number c.args.answer) c.await_answer.new.self c.answer.new.self view c.answer.ensures.followed c.requires.free tt

pub returns-clause-kernel : goal.returns-clause-kernel
returns-clause-kernel c =
    let view = same_seen c.args.self.now c.self.inside.follower c.self.view_is c.await_answer.new.self c.await_answer.ensures.looks in
    kernel_followed c.args.self.now (event.Answer c.args.interface c.args.number c.args.answer) c.await_answer.new.self c.answer.new.self view c.answer.ensures.followed tt

pub returns-clause-loads : goal.returns-clause-loads
returns-clause-loads c =
    let view = same_seen c.args.self.now c.self.inside.follower c.self.view_is c.await_answer.new.self c.await_answer.ensures.looks in
    loads_followed c.args.self.now (event.Answer c.args.interface c.args.number c.args.answer) c.await_answer.new.self c.answer.new.self view c.answer.ensures.followed
