use Rattle.std.proofs.Common.{subst, ◌∙◌}
use Rattle.indexmap.proofs.CallerLemmas.{insert_entry-new}
use Rattle.graph_objects.specs.Grown.{empty_slot, HasSlot}
use Rattle.graph_objects.proofs.KeyLemmas.{key_eq}
use Rattle.graph_objects.proofs.SlotLemmas.{none_of}
use Rattle.graph_objects.proofs.GrowLemmas.{has_there, has_more}
use Rattle.graph_objects.proofs.growth.slot_for.Goals as goal

pub returns-in-Some-clause-ok : goal.returns-in-Some-clause-ok
returns-in-Some-clause-ok c =
    let es = c.args.slots.now.entries in
    subst (λ k. HasSlot es es k c.in-Some.index) c.key_of-key.ensures (has_there es c.key_of-key.result c.in-Some.index c.in-Some.ensures.index c.in-Some.ensures.within)

pub returns-clause-ok : goal.returns-clause-ok
returns-clause-ok c =
    let es = c.args.slots.now.entries in
    subst (λ k. HasSlot es c.insert.new.self.entries k c.len-index.result) c.key_of-key.ensures
    (has_more es c.insert.new.self.entries c.key_of-key.result c.len-index.result
    (c.in_ok-_none.ensures.entries ∙ insert_entry-new key_eq c.args.slots.now c.key_of-key.result empty_slot (none_of _ c.in_default.ensures.found)) c.len-index.ensures.len)
