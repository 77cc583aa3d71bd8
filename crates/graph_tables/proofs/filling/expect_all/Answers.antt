use Rattle.std.proofs.Common.{refl, ◌∙◌}
use Rattle.graph_tables.proofs.ListLemmas.{none_expected, can_expect, expected_more, all_expected}
use Rattle.graph_tables.proofs.filling.expect_all.Goals as goal

pub loop-wish-init : goal.loop-wish-init
loop-wish-init c = record { held = refl; same = none_expected c.args.wishes.now c.args.objects.now.wishes c.requires.none }

pub expect-requires : goal.expect-requires
expect-requires c = can_expect c.args.wishes.now c.loop-wish.wish-index c.wish-item.result c.loop-wish-test.true c.wish-item.is c.loop-wish.objects.wishes c.loop-wish.invariant.same c.requires.apart

pub loop-wish-preserved : goal.loop-wish-preserved
loop-wish-preserved c = record {
  held = c.in_ok-expect.ensures.held ∙ c.loop-wish.invariant.held;
  same = expected_more c.args.wishes.now c.loop-wish.wish-index c.wish-item.result c.loop-wish-test.true c.wish-item.is c.loop-wish.objects.wishes c.loop-wish.invariant.same c.expect.new.self.wishes c.in_ok-expect.ensures.ok;
}

pub returns-clause-ok : goal.returns-clause-ok
returns-clause-ok c = all_expected c.args.wishes.now c.loop-wish.objects.wishes c.loop-wish.wish-index c.loop-wish-test.false c.loop-wish.invariant.same
