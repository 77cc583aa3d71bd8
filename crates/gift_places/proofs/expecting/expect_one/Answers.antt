use Rattle.gift_places.proofs.MoreLemmas.{one_or_none}
use Rattle.gift_places.proofs.expecting.expect_one.Goals as goal

pub returns-clause-more : goal.returns-clause-more
returns-clause-more c = one_or_none c.expect.result c.args.gifts.now c.expect.new.self c.args.object.now c.requires c.expect.ensures.ok c.expect.ensures.err
