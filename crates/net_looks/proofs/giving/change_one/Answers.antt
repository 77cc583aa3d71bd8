use Rattle.net_looks.proofs.GivingLemmas.{one_place, one_few, one_some}
use Rattle.net_looks.proofs.giving.change_one.Goals as goal

pub give-requires-clause-place : goal.give-requires-clause-place
give-requires-clause-place c = one_place c.args.change c.args.gifts.now c.args.object.now c.in-More.is c.requires

pub give-requires-clause-few : goal.give-requires-clause-few
give-requires-clause-few c = one_few c.args.change c.args.gifts.now c.args.object.now c.in-More.is c.requires

pub withdraw-requires : goal.withdraw-requires
withdraw-requires c = one_some c.args.change c.args.gifts.now c.args.object.now c.in-Less.is c.requires
