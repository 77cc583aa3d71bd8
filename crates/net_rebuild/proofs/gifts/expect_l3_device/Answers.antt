use Rattle.std.proofs.Common.{ℕ, List, Option, OnOk, refl, sym, subst, ◌∙◌}
use Rattle.kern_model.proofs.MemberLemmas.{none_in_nil}
use Rattle.net_rules.specs.Want.{given_by}
use Rattle.net_rules.specs.Inputs.{facts_of}
use Rattle.net_gifts.specs.Giving.{HavePlaces}
use Rattle.gift_places.proofs.MoreLemmas.{none_more}
use Rattle.net_rebuild.proofs.gifts.expect_l3_device.Goals as goal

pub returns-in-Some-clause-places : goal.returns-in-Some-clause-places
returns-in-Some-clause-places c =
    subst (λ (l3_device : Option (List ℕ)). OnOk c.expect_on.result (HavePlaces c.expect_on.new.gifts (given_by (facts_of c.args.inputs.now) c.args.row.now l3_device))) (sym c.in-Some.is ∙ c.l3_device_of.ensures)
    c.expect_on.ensures.places

pub returns-in-None-clause-places : goal.returns-in-None-clause-places
returns-in-None-clause-places c =
    subst (λ (l3_device : Option (List ℕ)). HavePlaces c.args.gifts.now (given_by (facts_of c.args.inputs.now) c.args.row.now l3_device)) (sym c.in-None.is ∙ c.l3_device_of.ensures)
    (λ o member. absurd (none_in_nil o member))

pub returns-in-None-clause-more : goal.returns-in-None-clause-more
returns-in-None-clause-more c = none_more c.args.gifts.now c.args.gifts.now refl
