use Rattle.gift_places.proofs.MoreLemmas.{both_more}
use Rattle.gift_places.proofs.expecting.expect_given.Goals as goal

pub returns-clause-more : goal.returns-clause-more
returns-clause-more c = both_more c.args.gifts.now c.expect_own.new.gifts c.expect_routes_at.new.gifts c.expect_own.ensures.more c.expect_routes_at.ensures.more
