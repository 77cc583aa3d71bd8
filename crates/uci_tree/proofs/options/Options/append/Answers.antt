use Rattle.std.proofs.Common.{◌<◌, ◌∙◌, length, Option, ap, arith}
use Rattle.std.proofs.lemmas.Result.{on_ok_weaker}
use Rattle.uci_tree.specs.declared.package.Opt.{Opt}
use Rattle.uci_tree.specs.declared.package.Value.TheVariants.{Many}
use Rattle.uci_tree.specs.Fold.{appended}
use Rattle.uci_tree.specs.Slots.{value_of}
use Rattle.uci_tree.proofs.SlotLemmas.{held_within, written_slots, put_in_slot, put_anew}
use Rattle.uci_tree.proofs.options.Options.append.Goals as goal

pub index_mut-slot-requires : goal.index_mut-slot-requires
index_mut-slot-requires c =
    let within : c.in-Some.place < length c.args.self.now.slots.items = held_within c.args.name c.args.self.now.slots.items _ c.in-Some.ensures.found in
    omega (arith, within, c.args.self.now.slots.ok.0)

pub returns-clause-indexed : goal.returns-clause-indexed
returns-clause-indexed c = written_slots c.args.self.now.places _ _ c.in_ok-value.value _ c.requires c.in-Some.ensures.found

pub returns-clause-made : goal.returns-clause-made
returns-clause-made c = put_in_slot _ _ (appended c.args.item) c.in_ok-value.value _ _ _ c.requires.apart c.in-Some.ensures.found c.index_mut-slot.ensures.value
    (c.in_ok-value.ensures ∙ ap (λ (z : Option Opt). appended c.args.item (value_of z)) c.take-before.ensures.value)

pub returns-in_default-clause-made : goal.returns-in_default-clause-made
returns-in_default-clause-made c = on_ok_weaker c.put.result (λ e. e ∙ put_anew _ _ (appended c.args.item) (Many c.in_ok-items.items) c.in_default.ensures.none (ap Many c.in_ok-items.ensures)) c.put.ensures.made
