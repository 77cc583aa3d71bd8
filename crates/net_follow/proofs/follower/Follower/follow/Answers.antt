use Rattle.std.proofs.Common.{ℕ, List, ◌++◌, refl, ap, ◌∙◌}
use Rattle.net_rules.specs.declared.event.Notice.{Notice}
use Rattle.known_inputs.specs.Known.{Known}
use Rattle.asked_places.specs.Touched.{is_touched}
use Rattle.touch_laws.specs.Staying.{told_of}
use Rattle.net_follow.specs.InStep.{inputs_of, touched_by}
use Rattle.net_follow.proofs.CalmLemmas.{calm_counts, held_counts}
use Rattle.net_follow.proofs.KeptLemmas.{notices_room, room_kept}
use Rattle.net_follow.proofs.follower.Follower.follow.Goals as goal

pub renew-requires-clause-room : goal.renew-requires-clause-room
renew-requires-clause-room g c = notices_room c.args.self.now c.deref.result.now c.requires c.deref.ensures.value

pub look-requires : goal.look-requires
look-requires g c = calm_counts c.args.self.now.settling c.renew.new.settling c.renew.ensures.stays c.requires.calm

pub returns-clause-told : goal.returns-clause-told
returns-clause-told g c =
    c.renew.ensures.told
    ∙ ap (λ (places : List ℕ). c.args.self.now.notices.items ++ told_of (is_touched (inputs_of c.args.self.now).conf.interfaces places) (inputs_of c.args.self.now)) c.deref.ensures.value
    ∙ ap (λ (ns : List Notice). ns ++ told_of (touched_by c.args.self.now) (inputs_of c.args.self.now)) c.requires.told

pub returns-clause-counted : goal.returns-clause-counted
returns-clause-counted g c = c.look.ensures.counted c.renew.new.inputs.inputs c.renew.new.states.list.items c.renew.ensures.counted

pub returns-clause-held : goal.returns-clause-held
returns-clause-held g c = c.look.ensures.held ∙ held_counts c.args.self.now.settling c.renew.new.settling c.renew.ensures.stays

pub returns-clause-loads : goal.returns-clause-loads
returns-clause-loads g c = c.look.ensures.loads ∙ c.renew.ensures.stays.graph.loads

pub returns-clause-ready : goal.returns-clause-ready
returns-clause-ready g c = λ history. c.look.ensures.ready c.renew.new.inputs.inputs c.renew.new.states history c.renew.ensures.states (c.look.ensures.counted c.renew.new.inputs.inputs c.renew.new.states.list.items c.renew.ensures.counted)

pub returns-clause-room : goal.returns-clause-room
returns-clause-room g c =
    room_kept c.args.self.now (record c.args.self.now { inputs = c.renew.new.inputs; settling = c.look.new.settling; states = c.renew.new.states; notices = c.renew.new.notices })
    (ap (λ (k : Known). k.inputs.conf) c.renew.ensures.inputs) refl c.renew.ensures.capacity c.requires.room
