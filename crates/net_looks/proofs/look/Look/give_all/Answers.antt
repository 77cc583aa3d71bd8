use Rattle.net_rules.specs.Want.{given_on}
use Rattle.net_looks.specs.Look.{facts_at}
use Rattle.net_looks.proofs.GivingLemmas.{can_give}
use Rattle.net_looks.proofs.look.Look.give_all.Goals as goal

pub change_all-requires-clause-can : goal.change_all-requires-clause-can
change_all-requires-clause-can c = can_give c.args.gifts.now (given_on (facts_at c.args.self.now) c.args.row.now c.args.dev.now) c.requires.places c.requires.few
