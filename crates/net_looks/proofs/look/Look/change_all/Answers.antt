use Rattle.std.proofs.Common.{refl}
use Rattle.net_rules.specs.Want.{of_sections}
use Rattle.net_looks.specs.Look.{facts_at}
use Rattle.net_looks.specs.Giving.{own_given}
use Rattle.net_looks.proofs.GivingLemmas.{first_can, second_can, two_done}
use Rattle.net_looks.proofs.look.Look.change_all.Goals as goal

pub change_own-requires : goal.change_own-requires
change_own-requires c = first_can c.args.change c.args.gifts.now (own_given (facts_at c.args.self.now) c.args.row.now c.args.dev.now) (of_sections (facts_at c.args.self.now) c.args.row.now c.args.dev.now)
    (own_given (facts_at c.args.self.now) c.args.row.now c.args.dev.now) refl c.requires.can

pub change_sections-requires-clause-can : goal.change_sections-requires-clause-can
change_sections-requires-clause-can c = second_can c.args.change c.args.gifts.now c.change_own.new.gifts (own_given (facts_at c.args.self.now) c.args.row.now c.args.dev.now)
    (of_sections (facts_at c.args.self.now) c.args.row.now c.args.dev.now) (own_given (facts_at c.args.self.now) c.args.row.now c.args.dev.now) (of_sections (facts_at c.args.self.now) c.args.row.now c.args.dev.now)
    refl refl c.change_own.ensures c.requires.can

pub returns : goal.returns
returns c = two_done c.args.change c.args.gifts.now c.change_own.new.gifts c.change_sections.new.gifts (own_given (facts_at c.args.self.now) c.args.row.now c.args.dev.now)
    (of_sections (facts_at c.args.self.now) c.args.row.now c.args.dev.now) (own_given (facts_at c.args.self.now) c.args.row.now c.args.dev.now) (of_sections (facts_at c.args.self.now) c.args.row.now c.args.dev.now)
    refl refl c.change_own.ensures c.change_sections.ensures
