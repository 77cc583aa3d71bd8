use Rattle.std.proofs.Common.{sym, ap, ◌∙◌}
use Rattle.std.specs.Prelude.{not, ◌&&◌}
use Rattle.graph_objects.specs.declared.slot.Side.TheVariants.{Held, Wanted}
use Rattle.graph_objects.specs.Slots.{listed, set_on}
use Rattle.graph_objects.proofs.LookupLemmas.{taken_by_found, taken_by_none, taken_by_place}
use Rattle.graph_objects.proofs.due.is_taken.Goals as goal

pub returns-then-is_on_taken : goal.returns-then-is_on_taken
returns-then-is_on_taken c had = taken_by_place (set_on Held c.args.slots.now.entries) (listed Wanted c.args.slots.now.entries) c.args.object.now (sym c.is_on_taken.ensures ∙ c.if-is_on_taken.true) had

pub returns-in-Some : goal.returns-in-Some
returns-in-Some c had =
    ap (λ b. not c.same-stays.result && not b) c.replaces-is_replaced.ensures
    ∙ taken_by_found (set_on Held c.args.slots.now.entries) (listed Wanted c.args.slots.now.entries) c.args.object.now c.in-Some.wanted c.same-stays.result c.in-Some.ensures.found c.same-stays.ensures
    (sym c.is_on_taken.ensures ∙ c.if-is_on_taken.false) had

pub returns-in-None : goal.returns-in-None
returns-in-None c had = taken_by_none (set_on Held c.args.slots.now.entries) (listed Wanted c.args.slots.now.entries) c.args.object.now c.in-None.ensures.found (sym c.is_on_taken.ensures ∙ c.if-is_on_taken.false) had
