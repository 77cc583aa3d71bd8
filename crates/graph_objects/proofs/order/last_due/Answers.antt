use Rattle.std.proofs.Common.{arith, ◌≡◌, ◌+◌, ◌-◌, ◌<◌, length, Some, sym, subst, ◌∙◌}
use Rattle.std.specs.Prelude.{slice_get}
use Rattle.graph_objects.specs.declared.turn.Placed.{Placed}
use Rattle.graph_objects.proofs.TurnLemmas.{some_at}
use Rattle.graph_objects.proofs.ListedLemmas.{NoneDueFrom, none_from_one, none_listed_due, first_of_list}
use Rattle.graph_objects.proofs.order.last_due.Goals as goal

pub returns-then-is_still_due-clause-some : goal.returns-then-is_still_due-clause-some
returns-then-is_still_due-clause-some c =
    let list = c.args.list.now in
    let left = c.loop-left.left in
    let p : Placed = c.index-list-left.result in
    let next : left ≡ (left - 1) + 1 = omega (arith, c.loop-left-test.true) in
    let inside : left - 1 < length list = omega (arith, c.loop-left-test.true, c.loop-left.invariant.within) in
    let at : slice_get list (left - 1) ≡ Some p = some_at list (left - 1) p inside (sym c.index-list-left.is) in
    first_of_list c.args.turn c.args.slots.now.entries list c.requires.listed (left - 1) left p next at (sym c.is_still_due.ensures.is ∙ c.if-is_still_due.true) c.loop-left.invariant.none c.requires.slots c.is_still_due.ensures.steady

pub loop-left-preserved : goal.loop-left-preserved
loop-left-preserved c =
    let list = c.args.list.now in
    let left = c.loop-left.left in
    let p : Placed = c.index-list-left.result in
    let next : left ≡ (left - 1) + 1 = omega (arith, c.loop-left-test.true) in
    let inside : left - 1 < length list = omega (arith, c.loop-left-test.true, c.loop-left.invariant.within) in
    let at : slice_get list (left - 1) ≡ Some p = some_at list (left - 1) p inside (sym c.index-list-left.is) in
    record {
      none = none_from_one c.args.turn c.args.slots.now.entries list (left - 1) left p next at (λ due. cc (c.is_still_due.ensures.is, c.if-is_still_due.false, due)) c.loop-left.invariant.none;
      within = omega (arith, c.loop-left.invariant.within);
    }

pub returns-clause-none : goal.returns-clause-none
returns-clause-none c =
    let none : c.loop-left.left ≡ 0 = omega (arith, c.loop-left-test.false) in
    none_listed_due c.args.turn c.args.slots.now.entries c.args.list.now c.requires.listed (subst (NoneDueFrom c.args.turn c.args.slots.now.entries c.args.list.now) none c.loop-left.invariant.none)
