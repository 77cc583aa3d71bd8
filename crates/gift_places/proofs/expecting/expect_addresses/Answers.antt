use Rattle.std.proofs.Common.{map, refl, ap}
use Rattle.kern_model.specs.declared.object.Object.TheVariants as object
use Rattle.gift_places.proofs.MoreLemmas.{all_left, item_done, all_done, both_more}
use Rattle.gift_places.proofs.expecting.expect_addresses.Goals as goal

pub loop-cidr-init : goal.loop-cidr-init
loop-cidr-init c = all_left c.args.gifts.now (map (object.Address c.args.dev.now) c.args.addresses.now)

pub expect_one-requires : goal.expect_one-requires
expect_one-requires c = refl

pub loop-cidr-preserved : goal.loop-cidr-preserved
loop-cidr-preserved c = item_done (object.Address c.args.dev.now) c.args.gifts.now c.loop-cidr.gifts c.expect_one.new.gifts (map (object.Address c.args.dev.now) c.args.addresses.now) c.args.addresses.now c.loop-cidr.cidr-index
    c.cidr-item.result (object.Address c.args.dev.now c.cidr-item.result) c.loop-cidr-test.true (ap (object.Address c.args.dev.now) c.cidr-item.is) c.loop-cidr.invariant c.in_ok-expect_one.ensures.ok c.expect_one.ensures.more

pub returns-in_err-expect_one-clause-more : goal.returns-in_err-expect_one-clause-more
returns-in_err-expect_one-clause-more c = both_more c.args.gifts.now c.loop-cidr.gifts c.expect_one.new.gifts c.loop-cidr.invariant.more c.expect_one.ensures.more

pub returns-clause-ok : goal.returns-clause-ok
returns-clause-ok c = all_done (map (object.Address c.args.dev.now)) c.args.gifts.now c.loop-cidr.gifts (map (object.Address c.args.dev.now) c.args.addresses.now) c.args.addresses.now c.loop-cidr.cidr-index refl c.loop-cidr-test.false
    c.loop-cidr.invariant

pub returns-clause-more : goal.returns-clause-more
returns-clause-more c = c.loop-cidr.invariant.more
