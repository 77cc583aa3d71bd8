use Rattle.std.proofs.Common.{◌≡◌, ℕ, List, Some, None, sym, subst, ◌∙◌}
use Rattle.net_reach.specs.Walk.{Leads}
use Rattle.net_reach.proofs.WalkLemmas.{stays_itself, stays_with, leads_to, climbed_further, read_some, read_none}
use Rattle.net_reach.proofs.walk.add_above.Goals as goal

pub returns-in-Some-clause-stays : goal.returns-in-Some-clause-stays
returns-in-Some-clause-stays c = stays_with c.args.rows.now c.add_all.new.self c.places_at.result.now c.add_all.ensures

pub returns-in-Some-clause-above : goal.returns-in-Some-clause-above
returns-in-Some-clause-above c name named =
    let both : Some c.in-Some.name.now ≡ Some name = sym (read_some c.args.names.now c.args.lower c.get.result c.in-Some.name c.get.ensures.lookup c.in-Some.is) ∙ named in
    let same : c.in-Some.name.now ≡ name = cc both in
    subst (λ (z : List ℕ). Leads c.args.above.now z c.add_all.new.self) same (leads_to c.args.above.now c.in-Some.name.now c.args.rows.now c.add_all.new.self c.places_at.result.now c.places_at.ensures c.add_all.ensures)

pub returns-in-Some-clause-only : goal.returns-in-Some-clause-only
returns-in-Some-clause-only c = λ base member climbed. climbed_further c.args.above.now c.args.names.now base c.args.rows.now c.add_all.new.self c.places_at.result.now c.args.lower c.in-Some.name.now member
    (read_some c.args.names.now c.args.lower c.get.result c.in-Some.name c.get.ensures.lookup c.in-Some.is) c.places_at.ensures c.add_all.ensures climbed

pub returns-in-None-clause-stays : goal.returns-in-None-clause-stays
returns-in-None-clause-stays c = stays_itself c.args.rows.now

pub returns-in-None-clause-above : goal.returns-in-None-clause-above
returns-in-None-clause-above c name named =
    let both : None ≡ Some name = sym (read_none c.args.names.now c.args.lower c.get.result c.get.ensures.lookup c.in-None.is) ∙ named in
    cc both

pub returns-in-None-clause-only : goal.returns-in-None-clause-only
returns-in-None-clause-only c = λ base member climbed. climbed
