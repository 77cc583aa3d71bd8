use Rattle.std.proofs.Common.{◌≡◌, ◌<◌, ◌∙◌, sym, length, true, false, arith, subst}
use Rattle.uci_tree.specs.Slots.{Holds}
use Rattle.uci_tree.proofs.SlotLemmas.{holds_there, held_within, none_so_far}
use Rattle.uci_tree.proofs.options.first_place.Goals as goal

pub returns-then-holds-clause-found : goal.returns-then-holds-clause-found
returns-then-holds-clause-found c = holds_there c.args.name.now c.args.slots.now c.loop-place.place c.index-slots-place.result c.loop-place-test.true (subst (Holds c.args.name.now) c.index-slots-place.is (c.holds.ensures.0 c.if-holds.true))

pub loop-place-preserved : goal.loop-place-preserved
loop-place-preserved c = none_so_far c.args.name.now c.args.slots.now c.loop-place.place c.index-slots-place.result c.loop-place.invariant
    (λ there. let is : c.holds.result ≡ true = c.holds.ensures.1 (subst (Holds c.args.name.now) (sym c.index-slots-place.is) there) in let f : true ≡ false = sym is ∙ c.if-holds.false in cc)

pub returns-clause-none : goal.returns-clause-none
returns-clause-none c place h =
    let within : place < length c.args.slots.now = held_within c.args.name.now c.args.slots.now place h in
    c.loop-place.invariant place (omega (arith, within, c.loop-place-test.false)) h
