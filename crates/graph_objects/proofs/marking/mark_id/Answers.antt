use Rattle.std.proofs.Common.{arith, ◌≡◌, ◌+◌, [], List, ℕ, take, get_or, Contains, subst, ◌∙◌}
use Rattle.std.proofs.lemmas.List.{take_all}
use Rattle.std.proofs.lemmas.List.Elements.{Contains-get_or}
use Rattle.kern_model.proofs.MemberLemmas.{none_in_nil}
use Rattle.graph_objects.specs.Marked.{MarkSome}
use Rattle.graph_objects.proofs.JudgeLemmas.{one_more}
use Rattle.graph_objects.proofs.SomeMarkedLemmas.{none_marked_yet, marked_then, one_marked}
use Rattle.graph_objects.proofs.marking.mark_id.Goals as goal

pub loop-place-init : goal.loop-place-init
loop-place-init c = none_marked_yet c.args.slots.now.entries c.args.marks.now (Contains []) (λ i. none_in_nil i)

pub index-requires : goal.index-requires
index-requires c =
    let listed = c.slots_of-listed.result.now in
    let place = get_or listed c.loop-place.place-index 0 in
    let member : Contains listed place = Contains-get_or listed c.loop-place.place-index 0 c.loop-place-test.true in
    c.requires.within place (subst (λ (ls : List ℕ). Contains ls place) c.slots_of-listed.ensures member)

pub put-requires : goal.put-requires
put-requires c =
    let listed = c.slots_of-listed.result.now in
    let place = get_or listed c.loop-place.place-index 0 in
    let member : Contains listed place = Contains-get_or listed c.loop-place.place-index 0 c.loop-place-test.true in
    let inside = c.requires.within place (subst (λ (ls : List ℕ). Contains ls place) c.slots_of-listed.ensures member) in
    omega (arith, inside, c.requires.room, c.loop-place.invariant.size)

pub loop-place-preserved : goal.loop-place-preserved
loop-place-preserved c =
    let es = c.args.slots.now.entries in
    let listed = c.slots_of-listed.result.now in
    let k = c.loop-place.place-index in
    let place = get_or listed k 0 in
    let next : List ℕ = c.put.new.self in
    marked_then es c.args.marks.now c.loop-place.marks next (Contains (take k listed)) (λ i. i ≡ place) (Contains (take (k + 1) listed)) c.loop-place.invariant
    (one_marked es c.loop-place.marks next place c.index.result.now c.may_be_due-is_due.result c.put.ensures c.index.ensures c.may_be_due-is_due.ensures.differing c.may_be_due-is_due.ensures.falling)
    (λ i member. one_more listed k i c.loop-place-test.true member)

pub returns : goal.returns
returns c =
    let listed = c.slots_of-listed.result.now in
    subst (λ (ls : List ℕ). MarkSome c.args.slots.now.entries c.args.marks.now c.loop-place.marks (Contains ls)) (take_all c.loop-place.place-index listed c.loop-place-test.false ∙ c.slots_of-listed.ensures) c.loop-place.invariant
