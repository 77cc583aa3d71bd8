use Rattle.std.proofs.Common.{arith, ◌≡◌, ◌+◌, ◌-◌, ◌<◌, length, Some, sym, subst, ◌∙◌}
use Rattle.std.specs.Prelude.{slice_get}
use Rattle.given_objects.specs.declared.order.Placed.{Placed}
use Rattle.given_objects.specs.Inside.{listed}
use Rattle.given_objects.proofs.OrderedLemmas.{NoneDueFrom, some_at, none_from_one, none_listed_due, first_of_list}
use Rattle.given_objects.proofs.order.last_due.Goals as goal

pub returns-then-is_still_due-clause-some : goal.returns-then-is_still_due-clause-some
returns-then-is_still_due-clause-some c =
    let list = c.args.list.now in
    let left = c.loop-left.left in
    let p : Placed = c.index-list-left.result in
    let next : left ≡ (left - 1) + 1 = omega (arith, c.loop-left-test.true) in
    let inside : left - 1 < length list = omega (arith, c.loop-left-test.true, c.loop-left.invariant.within) in
    let at : slice_get list (left - 1) ≡ Some p = some_at list (left - 1) p inside (sym c.index-list-left.is) in
    first_of_list c.args.turn (listed c.args.table.now.entries) c.requires.gifts list c.requires.listed (left - 1) left p next at (sym c.is_still_due.ensures ∙ c.if-is_still_due.true) c.loop-left.invariant.none

pub loop-left-preserved : goal.loop-left-preserved
loop-left-preserved c =
    let list = c.args.list.now in
    let left = c.loop-left.left in
    let p : Placed = c.index-list-left.result in
    let next : left ≡ (left - 1) + 1 = omega (arith, c.loop-left-test.true) in
    let inside : left - 1 < length list = omega (arith, c.loop-left-test.true, c.loop-left.invariant.within) in
    let at : slice_get list (left - 1) ≡ Some p = some_at list (left - 1) p inside (sym c.index-list-left.is) in
    record {
      none = none_from_one c.args.turn (listed c.args.table.now.entries) list (left - 1) left p next at (λ due. cc (c.is_still_due.ensures, c.if-is_still_due.false, due)) c.loop-left.invariant.none;
      within = omega (arith, c.loop-left.invariant.within);
    }

pub returns-clause-none : goal.returns-clause-none
returns-clause-none c =
    let none : c.loop-left.left ≡ 0 = omega (arith, c.loop-left-test.false) in
    let gs = listed c.args.table.now.entries in
    none_listed_due c.args.turn gs c.requires.gifts c.args.list.now c.requires.listed (subst (NoneDueFrom c.args.turn gs c.args.list.now) none c.loop-left.invariant.none)
