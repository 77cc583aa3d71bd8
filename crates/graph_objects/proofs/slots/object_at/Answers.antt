use Rattle.std.proofs.Common.{None, Some, refl, sym, ◌∙◌}
use Rattle.graph_objects.proofs.KeyLemmas.{key_eq, key_same, key_itself}
use Rattle.graph_objects.proofs.SlotLemmas.{found_slot, none_of, steady_on}
use Rattle.graph_objects.proofs.slots.object_at.Goals as goal

pub returns-in-Some-clause-found : goal.returns-in-Some-clause-found
returns-in-Some-clause-found c =
    found_slot key_eq key_same key_itself c.args.slots.now.entries c.requires.each c.get_index_of.ensures.unique c.args.side c.args.object.now c.key_of.result (Some c.index.result.now) c.key_of.ensures
    (sym c.in-Some.ensures.value ∙ c.index.ensures) c.on.result c.on.ensures

pub returns-in-Some-clause-steady : goal.returns-in-Some-clause-steady
returns-in-Some-clause-steady c = steady_on key_eq key_same key_itself c.args.slots.now.entries c.requires c.get_index_of.ensures.unique c.args.side

pub returns-in-None-clause-found : goal.returns-in-None-clause-found
returns-in-None-clause-found c =
    found_slot key_eq key_same key_itself c.args.slots.now.entries c.requires.each c.get_index_of.ensures.unique c.args.side c.args.object.now c.key_of.result None c.key_of.ensures
    (none_of _ c.in-None.ensures.found) None refl

pub returns-in-None-clause-steady : goal.returns-in-None-clause-steady
returns-in-None-clause-steady c = steady_on key_eq key_same key_itself c.args.slots.now.entries c.requires c.get_index_of.ensures.unique c.args.side
