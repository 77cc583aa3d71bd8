use Rattle.std.proofs.Common.{arith, ◌≡◌, ◌≤◌, ◌+◌, length, Some, List, Contains, inl, inr, ap, refl, sym, subst}
use Rattle.graph_objects.specs.declared.slot.Side.TheVariants.{Held}
use Rattle.graph_objects.specs.declared.slot.Wish.{Wish}
use Rattle.graph_objects.specs.Slots.{AreSlots, listed, wishes}
use Rattle.graph_objects.specs.Keys.{key_of}
use Rattle.graph_objects.specs.Marked.{AreMarked}
use Rattle.graph_objects.proofs.GrowLemmas.{within, one_slot_more, same_slots, same_listed, same_wishes, expected_slots, expected_held, expected_more}
use Rattle.graph_objects.proofs.MarkedLemmas.{size_stays, marked_with_room, grown_marked, wished_marked}
use Rattle.graph_objects.proofs.DeciderLemmas.{wish_listed_at}
use Rattle.graph_objects.proofs.growth.expect.Goals as goal

pub index_mut-requires : goal.index_mut-requires
index_mut-requires c = within c.slot_of_wish.new.slots.entries c.in-Ok.index _ c.in-Ok.ensures.ok.there

pub put-requires : goal.put-requires
put-requires c = let inside = within c.slot_of_wish.new.slots.entries c.in-Ok.index _ c.in-Ok.ensures.ok.there in omega (arith, inside, c.in-Ok.ensures.room)

pub returns-in-Ok-clause-slots : goal.returns-in-Ok-clause-slots
returns-in-Ok-clause-slots c = expected_slots c.args.slots.now.entries c.slot_of_wish.new.slots.entries (key_of c.args.wish.object) c.in-Ok.index c.in-Ok.ensures.ok c.requires.slots c.index_mut.result.now c.index_mut.ensures.value
    c.args.wish refl c.requires.fits (c.has_form.ensures c.requires.fits.lower)

pub returns-in-Ok-clause-marked : goal.returns-in-Ok-clause-marked
returns-in-Ok-clause-marked c =
    let old = c.args.slots.now.entries in
    let new = c.slot_of_wish.new.slots.entries in
    let key = key_of c.args.wish.object in
    let has = c.in-Ok.ensures.ok in
    let grown = grown_marked old new key c.in-Ok.index c.slot_of_wish.new.marks c.args.marks.now has c.in-Ok.ensures.room c.in-Ok.ensures.same c.requires.marked in
    let more = expected_more old new key c.in-Ok.index has c.requires.slots c.index_mut.result.now c.index_mut.ensures.value c.args.wish refl c.requires.fits (c.has_form.ensures c.requires.fits.lower) in
    wished_marked new c.in-Ok.index key has.slot c.index_mut.result.now c.args.wish c.slot_of_wish.new.marks c.put.new.self has.there c.index_mut.ensures.value
    (λ v member. (more v).1 (inl (subst (λ (ws : List Wish). Contains ws v) (same_wishes old new key c.in-Ok.index has) member))) grown c.put.ensures

pub returns-in-Ok-clause-held : goal.returns-in-Ok-clause-held
returns-in-Ok-clause-held c = expected_held c.args.slots.now.entries c.slot_of_wish.new.slots.entries (key_of c.args.wish.object) c.in-Ok.index c.in-Ok.ensures.ok c.requires.slots c.index_mut.result.now c.index_mut.ensures.value c.args.wish
    refl c.requires.fits (c.has_form.ensures c.requires.fits.lower)

pub returns-in-Ok-clause-ok : goal.returns-in-Ok-clause-ok
returns-in-Ok-clause-ok c = expected_more c.args.slots.now.entries c.slot_of_wish.new.slots.entries (key_of c.args.wish.object) c.in-Ok.index c.in-Ok.ensures.ok c.requires.slots c.index_mut.result.now c.index_mut.ensures.value c.args.wish
    refl c.requires.fits (c.has_form.ensures c.requires.fits.lower)

pub returns-in-Ok-clause-listed : goal.returns-in-Ok-clause-listed
returns-in-Ok-clause-listed c = wish_listed_at c.slot_of_wish.new.by_id.items c.slot_of_wish.new.slots.entries c.in-Ok.index c.index_mut.result.now c.args.wish c.in-Ok.ensures.listed c.in-Ok.ensures.first c.in-Ok.ensures.second

pub returns-in-Err-clause-slots : goal.returns-in-Err-clause-slots
returns-in-Err-clause-slots c =
    let old = c.args.slots.now.entries in
    let new = c.slot_of_wish.new.slots.entries in
    elim c.in-Err.ensures.err as (λ _. AreSlots new) [
      | inl same ↦ subst AreSlots (sym same) c.requires.slots
      | inr grown ↦ same_slots old new (key_of c.args.wish.object) grown.0 grown.1 c.requires.slots
    ]

pub returns-in-Err-clause-marked : goal.returns-in-Err-clause-marked
returns-in-Err-clause-marked c =
    let old = c.args.slots.now.entries in
    let new = c.slot_of_wish.new.slots.entries in
    elim c.in-Err.ensures.err as (λ _. AreMarked c.slot_of_wish.new.marks new) [
      | inl same ↦ marked_with_room c.args.marks.now c.slot_of_wish.new.marks new c.in-Err.ensures.room c.in-Err.ensures.same (subst (AreMarked c.args.marks.now) (sym same) c.requires.marked)
      | inr grown ↦ grown_marked old new (key_of c.args.wish.object) grown.0 c.slot_of_wish.new.marks c.args.marks.now grown.1 c.in-Err.ensures.room c.in-Err.ensures.same c.requires.marked
    ]

pub returns-in-Err-clause-held : goal.returns-in-Err-clause-held
returns-in-Err-clause-held c =
    let old = c.args.slots.now.entries in
    let new = c.slot_of_wish.new.slots.entries in
    elim c.in-Err.ensures.err as (λ _. listed Held new ≡ listed Held old) [
      | inl same ↦ ap (listed Held) same
      | inr grown ↦ same_listed old new (key_of c.args.wish.object) grown.0 grown.1
    ]

pub returns-in-Err-clause-err : goal.returns-in-Err-clause-err
returns-in-Err-clause-err c =
    let old = c.args.slots.now.entries in
    let new = c.slot_of_wish.new.slots.entries in
    elim c.in-Err.ensures.err as (λ _. wishes new ≡ wishes old) [
      | inl same ↦ ap wishes same
      | inr grown ↦ same_wishes old new (key_of c.args.wish.object) grown.0 grown.1
    ]

pub returns-in-Ok-clause-few : goal.returns-in-Ok-clause-few
returns-in-Ok-clause-few c =
    let new = c.slot_of_wish.new.slots.entries in
    let index = c.in-Ok.index in
    omega (arith, size_stays new index (record c.index_mut.result.now { wish = Some c.args.wish }), one_slot_more c.args.slots.now.entries new (key_of c.args.wish.object) index c.in-Ok.ensures.ok)

pub returns-in-Err-clause-few : goal.returns-in-Err-clause-few
returns-in-Err-clause-few c =
    let old = c.args.slots.now.entries in
    let new = c.slot_of_wish.new.slots.entries in
    elim c.in-Err.ensures.err as (λ _. length new ≤ length old + 1) [
      | inl same ↦ omega (arith, ap length same)
      | inr grown ↦ one_slot_more old new (key_of c.args.wish.object) grown.0 grown.1
    ]
