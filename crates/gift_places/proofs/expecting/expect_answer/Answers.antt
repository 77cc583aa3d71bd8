use Rattle.std.proofs.Common.{ℕ, List, map, ap}
use Rattle.net_addr.specs.declared.address.Addr.{Addr}
use Rattle.kern_model.specs.declared.object.Object.TheVariants as object
use Rattle.net_rows.proofs.WordLemmas.{on_ok_then}
use Rattle.net_rules.specs.declared.answer.AnswerRoute.{AnswerRoute}
use Rattle.net_wants.specs.Given.{answer_route}
use Rattle.gift_places.proofs.MoreLemmas.{both_more, both_places}
use Rattle.gift_places.proofs.expecting.expect_answer.Goals as goal

pub returns-clause-ok : goal.returns-clause-ok
returns-clause-ok c = on_ok_then c.expect_answer_routes.result (λ made.
    both_places c.args.gifts.now c.expect_addresses.new.gifts c.expect_answer_routes.new.gifts (map (object.Address c.args.dev.now) c.args.answer.now.addresses) (map (answer_route c.args.dev.now) c.args.answer.now.routes)
    (map (object.Address c.args.dev.now) c.as_slice.result.now) (map (answer_route c.args.dev.now) c.as_slice-2.result.now)
    (ap (λ (z : List (Addr × ℕ)). map (object.Address c.args.dev.now) z) c.as_slice.ensures)
    (ap (λ (z : List AnswerRoute). map (answer_route c.args.dev.now) z) c.as_slice-2.ensures)
    c.in_ok-expect_addresses.ensures.ok made) c.expect_answer_routes.ensures.ok

pub returns-clause-more : goal.returns-clause-more
returns-clause-more c = both_more c.args.gifts.now c.expect_addresses.new.gifts c.expect_answer_routes.new.gifts c.expect_addresses.ensures.more c.expect_answer_routes.ensures.more
