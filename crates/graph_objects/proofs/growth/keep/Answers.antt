use Rattle.std.proofs.Common.{arith, length, Some, ap, refl, sym, subst}
use Rattle.graph_objects.specs.declared.slot.Slot.{Slot}
use Rattle.graph_objects.specs.Slots.{AreSlots, wishes}
use Rattle.graph_objects.specs.Deciders.{deciders}
use Rattle.graph_objects.specs.Keys.{key_of}
use Rattle.graph_objects.proofs.GrowLemmas.{within, one_slot_more, same_slot, kept_slots, kept_held, kept_wishes}
use Rattle.graph_objects.proofs.MarkedLemmas.{size_stays}
use Rattle.graph_objects.proofs.DeciderLemmas.{none_new, none_new_on, none_new_slot, deciders_written}
use Rattle.indexmap.specs.IndexMap.{set_value_at}
use Rattle.graph_objects.proofs.growth.keep.Goals as goal

pub index_mut-requires : goal.index_mut-requires
index_mut-requires c = within c.slot_for.new.slots.entries c.in_ok-index.index _ c.in_ok-index.ensures.ok.there

pub returns-clause-slots : goal.returns-clause-slots
returns-clause-slots c = kept_slots c.args.slots.now.entries c.slot_for.new.slots.entries (key_of c.args.object.now) c.in_ok-index.index c.in_ok-index.ensures.ok c.requires.slots c.index_mut.result.now c.index_mut.ensures.value
    c.args.object.now refl c.requires.fits (c.has_form.ensures c.requires.fits.lower)

pub returns-clause-ok : goal.returns-clause-ok
returns-clause-ok c = kept_held c.args.slots.now.entries c.slot_for.new.slots.entries (key_of c.args.object.now) c.in_ok-index.index c.in_ok-index.ensures.ok c.requires.slots c.index_mut.result.now c.index_mut.ensures.value
    c.args.object.now refl c.requires.fits (c.has_form.ensures c.requires.fits.lower)

pub returns-clause-wishes : goal.returns-clause-wishes
returns-clause-wishes c = kept_wishes c.args.slots.now.entries c.slot_for.new.slots.entries (key_of c.args.object.now) c.in_ok-index.index c.in_ok-index.ensures.ok c.requires.slots c.index_mut.result.now c.index_mut.ensures.value
    c.args.object.now refl c.requires.fits (c.has_form.ensures c.requires.fits.lower)

pub returns-in_err-index-clause-slots : goal.returns-in_err-index-clause-slots
returns-in_err-index-clause-slots c = subst AreSlots (sym c.in_err-index.ensures.err) c.requires.slots

pub returns-in_err-index-clause-wishes : goal.returns-in_err-index-clause-wishes
returns-in_err-index-clause-wishes c = ap wishes c.in_err-index.ensures.err

pub returns-clause-room : goal.returns-clause-room
returns-clause-room c = omega (arith, size_stays c.slot_for.new.slots.entries c.in_ok-index.index (record c.index_mut.result.now { held = Some c.args.object.now }), c.in_ok-index.ensures.room)

pub returns-clause-stay : goal.returns-clause-stay
returns-clause-stay c =
    let old = c.args.slots.now.entries in
    let new = c.slot_for.new.slots.entries in
    let key = key_of c.args.object.now in
    let index = c.in_ok-index.index in
    let has = c.in_ok-index.ensures.ok in
    let s : Slot = c.index_mut.result.now in
    let w : Slot = record s { held = Some c.args.object.now } in
    none_new_on (deciders old) (deciders new) (deciders (set_value_at new index w)) (none_new_slot old new key index has)
    (none_new (deciders new) (deciders (set_value_at new index w)) (deciders_written new index key s w (same_slot new index key has.slot s has.there c.index_mut.ensures.value) refl))

pub returns-in_err-index-clause-stay : goal.returns-in_err-index-clause-stay
returns-in_err-index-clause-stay c = none_new (deciders c.args.slots.now.entries) (deciders c.slot_for.new.slots.entries) (ap deciders c.in_err-index.ensures.err)

pub returns-clause-few : goal.returns-clause-few
returns-clause-few c =
    let new = c.slot_for.new.slots.entries in
    let index = c.in_ok-index.index in
    omega (arith, size_stays new index (record c.index_mut.result.now { held = Some c.args.object.now }), one_slot_more c.args.slots.now.entries new (key_of c.args.object.now) index c.in_ok-index.ensures.ok)

pub returns-in_err-index-clause-few : goal.returns-in_err-index-clause-few
returns-in_err-index-clause-few c = omega (arith, ap length c.in_err-index.ensures.err)
