use Rattle.graph_settle.proofs.MadeLemmas.{has_its_place, next_below, told_upper, told_lower, made_did, made_noted}
use Rattle.graph_settle.proofs.settling.GraphSettling.did.Goals as goal

pub note-requires : goal.note-requires
note-requires c =
    let upper = told_upper c.args.call.now c.object.result c.is_upper.result c.object.ensures c.is_upper.ensures c.if-is_upper.true in
    has_its_place c.args.self.now c.are_gifts.ensures c.requires.ready c.args.call.now c.requires.next upper

pub did-requires : goal.did-requires
did-requires c =
    let lower = told_lower c.args.call.now c.object.result c.is_upper.result c.object.ensures c.is_upper.ensures c.if-is_upper.false in
    next_below c.args.self.now c.are_gifts.ensures c.requires.ready c.args.call.now c.requires.next lower

pub returns-then-is_upper-clause-held : goal.returns-then-is_upper-clause-held
returns-then-is_upper-clause-held c =
    let upper = told_upper c.args.call.now c.object.result c.is_upper.result c.object.ensures c.is_upper.ensures c.if-is_upper.true in
    (made_noted c.args.self.now c.are_gifts.ensures c.requires.ready c.args.call.now c.requires.next upper c.note.new.gifts c.note.ensures).held

pub returns-then-is_upper-clause-left : goal.returns-then-is_upper-clause-left
returns-then-is_upper-clause-left c =
    let upper = told_upper c.args.call.now c.object.result c.is_upper.result c.object.ensures c.is_upper.ensures c.if-is_upper.true in
    (made_noted c.args.self.now c.are_gifts.ensures c.requires.ready c.args.call.now c.requires.next upper c.note.new.gifts c.note.ensures).left

pub returns-then-is_upper-clause-stays : goal.returns-then-is_upper-clause-stays
returns-then-is_upper-clause-stays c =
    let upper = told_upper c.args.call.now c.object.result c.is_upper.result c.object.ensures c.is_upper.ensures c.if-is_upper.true in
    (made_noted c.args.self.now c.are_gifts.ensures c.requires.ready c.args.call.now c.requires.next upper c.note.new.gifts c.note.ensures).stays

pub returns-then-is_upper-clause-ready : goal.returns-then-is_upper-clause-ready
returns-then-is_upper-clause-ready c =
    let upper = told_upper c.args.call.now c.object.result c.is_upper.result c.object.ensures c.is_upper.ensures c.if-is_upper.true in
    (made_noted c.args.self.now c.are_gifts.ensures c.requires.ready c.args.call.now c.requires.next upper c.note.new.gifts c.note.ensures).ready

pub returns-else-is_upper-clause-held : goal.returns-else-is_upper-clause-held
returns-else-is_upper-clause-held c =
    let lower = told_lower c.args.call.now c.object.result c.is_upper.result c.object.ensures c.is_upper.ensures c.if-is_upper.false in
    (made_did c.args.self.now c.are_gifts.ensures c.requires.ready c.args.call.now c.requires.next lower c.did.new.self c.did.ensures).held

pub returns-else-is_upper-clause-left : goal.returns-else-is_upper-clause-left
returns-else-is_upper-clause-left c =
    let lower = told_lower c.args.call.now c.object.result c.is_upper.result c.object.ensures c.is_upper.ensures c.if-is_upper.false in
    (made_did c.args.self.now c.are_gifts.ensures c.requires.ready c.args.call.now c.requires.next lower c.did.new.self c.did.ensures).left

pub returns-else-is_upper-clause-ready : goal.returns-else-is_upper-clause-ready
returns-else-is_upper-clause-ready c =
    let lower = told_lower c.args.call.now c.object.result c.is_upper.result c.object.ensures c.is_upper.ensures c.if-is_upper.false in
    (made_did c.args.self.now c.are_gifts.ensures c.requires.ready c.args.call.now c.requires.next lower c.did.new.self c.did.ensures).ready
