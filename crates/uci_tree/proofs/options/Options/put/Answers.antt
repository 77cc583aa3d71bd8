use Rattle.std.proofs.Common.{◌≡◌, ◌<◌, length, get_or, None, refl, arith}
use Rattle.uci_tree.proofs.SlotLemmas.{held_within, written_slots, pushed_slots, put_in_slot, put_at_end}
use Rattle.uci_tree.proofs.options.Options.put.Goals as goal

pub index_mut-requires : goal.index_mut-requires
index_mut-requires c =
    let within : c.in-Some.place < length c.args.self.now.slots.items = held_within c.args.name c.args.self.now.slots.items _ c.in-Some.ensures.found in
    omega (arith, within, c.args.self.now.slots.ok.0)

pub returns-in-Some-clause-indexed : goal.returns-in-Some-clause-indexed
returns-in-Some-clause-indexed c = written_slots c.args.self.now.places _ _ c.args.value _ c.requires c.in-Some.ensures.found

pub returns-in-Some-clause-made : goal.returns-in-Some-clause-made
returns-in-Some-clause-made c = put_in_slot _ _ (λ before. c.args.value) c.args.value _ (get_or c.args.self.now.slots.items c.in-Some.place None) None c.requires.apart c.in-Some.ensures.found refl refl

pub returns-clause-indexed : goal.returns-clause-indexed
returns-clause-indexed c =
    let count : c.len.result ≡ length c.args.self.now.slots.items = omega (arith, c.len.ensures, c.args.self.now.slots.ok.0) in
    pushed_slots c.args.self.now.places c.note.new.places _ _ _ c.args.value _ c.requires c.in_default.ensures.none count c.in_ok-push.ensures.items c.in_ok-note.ensures

pub returns-clause-made : goal.returns-clause-made
returns-clause-made c = put_at_end _ _ _ (λ before. c.args.value) c.in_default.ensures.none c.in_ok-push.ensures.items
