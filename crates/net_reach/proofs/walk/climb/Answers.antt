use Rattle.std.proofs.Common.{arith, ◌≡◌, ◌<◌, ℕ, List, length, get_or, Some, slice_get, ap, sym, subst, ◌∙◌}
use Rattle.std.proofs.lemmas.Option.{same_Some}
use Rattle.net_reach.specs.Places.{Places}
use Rattle.net_reach.proofs.WalkLemmas.{stays_with, leads_to, still_leads, climbed_first, climbed_more, climbed_all, in_at, read_index}
use Rattle.net_reach.proofs.walk.climb.Goals as goal

pub loop-next-init : goal.loop-next-init
loop-next-init c = record {
  bound = (stays_with c.clear.new.self c.add_all.new.self c.places_at.result.now c.add_all.ensures).bound ∙ ap (λ (s : Places). s.bound) c.clear.ensures;
  first = leads_to c.args.above.now c.args.base.now c.clear.new.self c.add_all.new.self c.places_at.result.now c.places_at.ensures c.add_all.ensures;
  climbed = λ turn place name less. absurd (omega (arith, less));
  only = climbed_first c.args.above.now c.args.names.now c.args.base.now c.clear.new.self c.add_all.new.self c.places_at.result.now (ap (λ (s : Places). s.list) c.clear.ensures) c.places_at.ensures c.add_all.ensures;
}

pub loop-next-preserved : goal.loop-next-preserved
loop-next-preserved c =
    let rows : Places = c.loop-next.rows in
    let next : ℕ = c.loop-next.next in
    let was = c.loop-next.invariant in
    let stays = c.add_above.ensures.stays in
    let size = ap length c.places.ensures.places in
    let within : next < length rows.list = omega (arith, c.loop-next-test.true) in
    let seen : List ℕ = c.places-in-loop-next.result.now in
    let lower : ℕ = get_or seen next 0 in
    let read : slice_get rows.list next ≡ Some lower = read_index rows.list seen next within c.places-in-loop-next.ensures.places in
    record {
      bound = stays.bound ∙ was.bound;
      first = still_leads c.args.above.now c.args.base.now rows c.add_above.new.rows stays was.first;
      climbed = climbed_more c.args.above.now c.args.names.now next rows c.add_above.new.rows within stays
          (λ place name is named. c.add_above.ensures.above name (subst (λ k. slice_get c.args.names.now k ≡ Some name) (same_Some place lower (sym is ∙ read)) named)) was.climbed;
      only = c.add_above.ensures.only c.args.base.now (in_at rows.list next lower read) was.only;
    }

pub returns-clause-bound : goal.returns-clause-bound
returns-clause-bound c = c.loop-next.invariant.bound

pub returns-clause-first : goal.returns-clause-first
returns-clause-first c = c.loop-next.invariant.first

pub returns-clause-further : goal.returns-clause-further
returns-clause-further c =
    let size = ap length c.places.ensures.places in
    climbed_all c.args.above.now c.args.names.now c.loop-next.next c.loop-next.rows (omega (arith, c.loop-next-test.false)) c.loop-next.invariant.climbed

pub returns-clause-only : goal.returns-clause-only
returns-clause-only c = c.loop-next.invariant.only
