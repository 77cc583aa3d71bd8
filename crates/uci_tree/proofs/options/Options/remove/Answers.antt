use Rattle.std.proofs.Common.{◌<◌, length, arith}
use Rattle.uci_tree.proofs.SlotLemmas.{held_within, emptied_slots, without_slot, without_absent}
use Rattle.uci_tree.proofs.options.Options.remove.Goals as goal

pub index_mut-requires : goal.index_mut-requires
index_mut-requires c =
    let within : c.in-Some.place < length c.args.self.now.slots.items = held_within c.args.name.now c.args.self.now.slots.items _ c.in-Some.ensures.found in
    omega (arith, within, c.args.self.now.slots.ok.0)

pub returns-in-Some-clause-indexed : goal.returns-in-Some-clause-indexed
returns-in-Some-clause-indexed c = emptied_slots c.args.self.now.places c.remove-place.new.self _ _ _ c.requires c.in-Some.ensures.found c.remove-place.ensures.updates.0

pub returns-in-Some-clause-made : goal.returns-in-Some-clause-made
returns-in-Some-clause-made c = without_slot _ _ _ c.requires.apart c.in-Some.ensures.found

pub returns-in_default-clause-made : goal.returns-in_default-clause-made
returns-in_default-clause-made c = without_absent _ _ c.in_default.ensures.none
