use Rattle.std.proofs.Common.{ap, arith, subst, sym, length, length-set, ◌<◌, ◌∙◌, Some, true, refl}
use Rattle.graph_rules.specs.State.{Known}
use Rattle.graph_counts.specs.Told.{HasFewClaims}
use Rattle.graph_counts.proofs.FewLemmas.{few_with_device}
use Rattle.graph_rules.specs.Edges.{changed_edges}
use Rattle.graph_counts.specs.Inside.{known_of}
use Rattle.graph_counts.proofs.AnswerLemmas.{tied_after_device}
use Rattle.graph_counts.proofs.CostLemmas.{cost_after_device}
use Rattle.graph_rules.specs.After.{name_at}
use Rattle.graph_counts.specs.Uses.{TellsUses}
use Rattle.graph_counts.proofs.UseLemmas.{told_uses}
use Rattle.graph_counts.proofs.counted.CountedNames.set_present.Goals as goal

pub invariant_of-self : goal.invariant_of-self
invariant_of-self g c =
    let id = c.args.id.0 in
    let s : Known = known_of c.self.inside in
    let within : id < length s.names = omega (arith, c.requires.within, ap (λ (k : Known). length k.names) c.self.view_is) in
    let t = tied_after_device s c.set_device.new.self c.self.inside.counts c.set_present.new.self id (Some c.args.device) true c.args.device.carrier c.self.invariant.sound c.self.invariant.counts within refl refl c.set_device.ensures
    c.set_present.ensures.net in
    record { sound = t.0; few = subst HasFewClaims (sym c.set_device.ensures) (few_with_device s.names id (Some c.args.device) within c.self.invariant.few); counts = t.1 }

pub returns-clause-cost : goal.returns-clause-cost
returns-clause-cost g c =
    let id = c.args.id.0 in
    let s : Known = known_of c.self.inside in
    let within : id < length s.names = omega (arith, c.requires.within, ap (λ (k : Known). length k.names) c.self.view_is) in
    let bound = cost_after_device s c.set_device.new.self c.self.inside.counts c.set_present.new.self id (Some c.args.device) true c.args.device.carrier c.self.invariant.sound c.self.invariant.counts within refl refl c.set_device.ensures
    c.set_present.ensures.net in
    let same = ap (λ (k : Known). changed_edges k (record s { names = c.set_device.new.self })) c.self.view_is in
    omega (arith, bound, same, c.set_present.ensures.cost)

pub returns-clause-uses : goal.returns-clause-uses
returns-clause-uses g c =
    let id = c.args.id.0 in
    let s : Known = known_of c.self.inside in
    let new : Known = record s { names = c.set_device.new.self } in
    let within : id < length s.names = omega (arith, c.requires.within, ap (λ (k : Known). length k.names) c.self.view_is) in
    let t = tied_after_device s c.set_device.new.self c.self.inside.counts c.set_present.new.self id (Some c.args.device) true c.args.device.carrier c.self.invariant.sound c.self.invariant.counts within refl refl c.set_device.ensures
    c.set_present.ensures.net in
    let size = ap length c.set_device.ensures ∙ length-set s.names id (record (name_at s.names id) { device = Some c.args.device }) in
    subst (λ (k : Known). TellsUses k new c.args.uses.now c.set_present.new.uses) c.self.view_is
    (told_uses s new c.self.inside.counts c.set_present.new.self c.args.uses.now c.set_present.new.uses c.self.invariant.sound t.0 size c.self.invariant.counts t.1 c.set_present.ensures.uses)
