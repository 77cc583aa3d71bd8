use Rattle.std.proofs.Common.{arith, ◌≡◌, ◌+◌, [], ◌∷◌, List, ℕ, take, get_or, Contains, Option, ap, subst, ◌∙◌}
use Rattle.std.proofs.lemmas.List.{take_all}
use Rattle.std.proofs.lemmas.List.Elements.{Contains-get_or}
use Rattle.graph_objects.specs.declared.slot.Wish.{Wish}
use Rattle.graph_objects.specs.declared.slot.Slot.{Slot}
use Rattle.graph_objects.specs.Changed.{judged_slot_by}
use Rattle.graph_objects.proofs.DeciderLemmas.{as_many_deciders}
use Rattle.graph_objects.proofs.JudgeLemmas.{one_more, judged_again, none_so_far, one_so_far, all_of_id}
use Rattle.graph_objects.proofs.judging.judge_id.Goals as goal

pub loop-place-init : goal.loop-place-init
loop-place-init c = none_so_far (judged_slot_by c.args.used.now (c.args.id ∷ [])) c.args.slots.now.entries

pub index-requires : goal.index-requires
index-requires c =
    let listed = c.slots_of-listed.result.now in
    let place = get_or listed c.loop-place.place-index 0 in
    let member : Contains listed place = Contains-get_or listed c.loop-place.place-index 0 c.loop-place-test.true in
    let inside = c.requires.within c.args.id place (subst (λ (ls : List ℕ). Contains ls place) c.slots_of-listed.ensures member) in
    let size = as_many_deciders c.args.slots.now.entries in
    omega (arith, inside, size, c.loop-place.invariant.size)

pub index_mut-requires : goal.index_mut-requires
index_mut-requires c =
    let listed = c.slots_of-listed.result.now in
    let place = get_or listed c.loop-place.place-index 0 in
    let member : Contains listed place = Contains-get_or listed c.loop-place.place-index 0 c.loop-place-test.true in
    let inside = c.requires.within c.args.id place (subst (λ (ls : List ℕ). Contains ls place) c.slots_of-listed.ensures member) in
    let size = as_many_deciders c.args.slots.now.entries in
    omega (arith, inside, size, c.loop-place.invariant.size)

pub loop-place-preserved : goal.loop-place-preserved
loop-place-preserved c =
    let f = judged_slot_by c.args.used.now (c.args.id ∷ []) in
    let listed = c.slots_of-listed.result.now in
    let k = c.loop-place.place-index in
    let t : Slot = c.index.result.now in
    let s : Slot = c.index_mut.result.now in
    let r : Option Wish = c.decided_wish-wish.result in
    let same : s ≡ t = cc (c.index.ensures, c.index_mut.ensures.value) in
    let made : (record s { wish = r }) ≡ f t = ap (λ (y : Slot). record y { wish = r }) same ∙ ap (λ (o : Option Wish). record t { wish = o }) c.decided_wish-wish.ensures in
    one_so_far f c.args.slots.now.entries (judged_again c.args.used.now (c.args.id ∷ [])) c.loop-place.slots.entries (take k listed) c.loop-place.invariant (get_or listed k 0) t (record s { wish = r }) c.index.ensures made
    (take (k + 1) listed) (λ i member. one_more listed k i c.loop-place-test.true member)

pub returns : goal.returns
returns c =
    let listed = c.slots_of-listed.result.now in
    all_of_id c.args.by_id.now c.args.slots.now.entries c.loop-place.slots.entries c.args.used.now c.args.id (take c.loop-place.place-index listed) c.requires
    (take_all c.loop-place.place-index listed c.loop-place-test.false ∙ c.slots_of-listed.ensures) c.loop-place.invariant
