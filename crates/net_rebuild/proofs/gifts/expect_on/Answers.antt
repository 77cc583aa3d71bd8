use Rattle.net_rules.specs.Want.{given_on}
use Rattle.net_rules.specs.Inputs.{facts_of}
use Rattle.net_rebuild.proofs.GiftLemmas.{listed_is_given, given_has_places, on_ok}
use Rattle.net_rebuild.proofs.gifts.expect_on.Goals as goal

pub returns-clause-places : goal.returns-clause-places
returns-clause-places c =
    let same = listed_is_given c.args.inputs.now c.args.row.now _ c.as_slice-routes.result.now c.routes_of-places.result.now c.args.dev.now c.answer_of-answer.ensures c.as_slice-routes.ensures
    (c.routes_of-places.ensures c.args.inputs.now c.requires.reach) in
    on_ok c.expect_given.result
    (λ made. given_has_places c.args.gifts.now c.expect_given.new.gifts _ (given_on (facts_of c.args.inputs.now) c.args.row.now c.args.dev.now) made same)
    c.expect_given.ensures.ok

pub returns-clause-more : goal.returns-clause-more
returns-clause-more c = on_ok c.expect_given.result (λ made. c.expect_given.ensures.more) c.expect_given.ensures.ok
