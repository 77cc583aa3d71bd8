use Rattle.std.proofs.Common.{map, refl, ap}
use Rattle.kern_model.specs.declared.object.Object.TheVariants as object
use Rattle.net_looks.proofs.GivingLemmas.{all_left, item_can, item_done, all_done}
use Rattle.net_looks.proofs.giving.change_addresses.Goals as goal

pub loop-cidr-init : goal.loop-cidr-init
loop-cidr-init c = all_left c.args.change c.args.gifts.now (map (object.Address c.args.dev.now) c.args.addresses.now) c.requires

pub change_one-requires : goal.change_one-requires
change_one-requires c = item_can (object.Address c.args.dev.now) c.args.change c.args.gifts.now c.loop-cidr.gifts (map (object.Address c.args.dev.now) c.args.addresses.now) c.args.addresses.now c.loop-cidr.cidr-index c.cidr-item.result
    (object.Address c.args.dev.now c.cidr-item.result) c.loop-cidr-test.true (ap (object.Address c.args.dev.now) c.cidr-item.is) c.loop-cidr.invariant

pub loop-cidr-preserved : goal.loop-cidr-preserved
loop-cidr-preserved c = item_done (object.Address c.args.dev.now) c.args.change c.args.gifts.now c.loop-cidr.gifts c.change_one.new.gifts (map (object.Address c.args.dev.now) c.args.addresses.now) c.args.addresses.now c.loop-cidr.cidr-index
    c.cidr-item.result (object.Address c.args.dev.now c.cidr-item.result) c.loop-cidr-test.true (ap (object.Address c.args.dev.now) c.cidr-item.is) c.loop-cidr.invariant c.change_one.ensures

pub returns : goal.returns
returns c = all_done (map (object.Address c.args.dev.now)) c.args.change c.args.gifts.now c.loop-cidr.gifts (map (object.Address c.args.dev.now) c.args.addresses.now) c.args.addresses.now c.loop-cidr.cidr-index refl c.loop-cidr-test.false
    c.loop-cidr.invariant
