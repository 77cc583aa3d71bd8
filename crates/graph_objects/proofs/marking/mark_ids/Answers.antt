use Rattle.std.proofs.Common.{arith, ◌+◌, [], List, ℕ, take, get_or, Contains, subst}
use Rattle.std.proofs.lemmas.List.{take_all}
use Rattle.kern_model.proofs.MemberLemmas.{none_in_nil}
use Rattle.graph_objects.specs.Deciders.{slots_of, IsListed}
use Rattle.graph_objects.specs.Marked.{MarkSome}
use Rattle.graph_objects.proofs.JudgeLemmas.{listed_next}
use Rattle.graph_objects.proofs.SomeMarkedLemmas.{none_marked_yet, marked_then}
use Rattle.graph_objects.proofs.marking.mark_ids.Goals as goal

pub loop-id-init : goal.loop-id-init
loop-id-init c = none_marked_yet c.args.slots.now.entries c.args.marks.now (IsListed c.args.by_id.now []) (λ i one. none_in_nil one.id one.among)

pub mark_id-requires-clause-room : goal.mark_id-requires-clause-room
mark_id-requires-clause-room c = omega (arith, c.requires.room, c.loop-id.invariant.size)

pub mark_id-requires-clause-within : goal.mark_id-requires-clause-within
mark_id-requires-clause-within c = c.requires.within (get_or c.args.ids.now c.loop-id.id-index 0)

pub loop-id-preserved : goal.loop-id-preserved
loop-id-preserved c =
    let lists = c.args.by_id.now in
    let ids = c.args.ids.now in
    let k = c.loop-id.id-index in
    let id = get_or ids k 0 in
    marked_then c.args.slots.now.entries c.args.marks.now c.loop-id.marks c.mark_id.new.marks (IsListed lists (take k ids)) (Contains (slots_of lists id)) (IsListed lists (take (k + 1) ids)) c.loop-id.invariant c.mark_id.ensures
    (λ i one. listed_next lists ids k i c.loop-id-test.true one)

pub returns : goal.returns
returns c =
    subst (λ (ns : List ℕ). MarkSome c.args.slots.now.entries c.args.marks.now c.loop-id.marks (IsListed c.args.by_id.now ns)) (take_all c.loop-id.id-index c.args.ids.now c.loop-id-test.false) c.loop-id.invariant
