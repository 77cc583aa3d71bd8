use Rattle.net_rebuild.proofs.GiftLemmas.{held_expected, none_expected}
use Rattle.net_rebuild.proofs.gifts.expected.Goals as goal

pub returns-clause-held : goal.returns-clause-held
returns-clause-held c = held_expected c.args.gifts.now c.in_ok-made.made c.expect_all.new.gifts c.in_ok-made.ensures c.in_ok-expect_all.ensures.more

pub returns-clause-none : goal.returns-clause-none
returns-clause-none c = none_expected c.args.gifts.now c.in_ok-made.made c.expect_all.new.gifts c.in_ok-made.ensures c.in_ok-expect_all.ensures.more
