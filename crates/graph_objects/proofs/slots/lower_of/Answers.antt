use Rattle.std.proofs.Common.{IfSome, IfNone, sym, subst}
use Rattle.kern_model.specs.declared.object.LinkKind.TheVariants.{Vlan}
use Rattle.graph_objects.specs.Slots.{set_on}
use Rattle.graph_objects.specs.Links.{IsVlanAt, HasNoVlan}
use Rattle.graph_objects.proofs.WalkLemmas.{lower_found, no_lower_found}
use Rattle.graph_objects.proofs.slots.lower_of.Goals as goal

pub returns-in-Some-clause-some : goal.returns-in-Some-clause-some
returns-in-Some-clause-some c =
    let objects = set_on c.args.side c.args.slots.now.entries in
    subst (λ r. IfSome r (IsVlanAt objects c.args.name.now)) (sym c.lower_name.ensures) (lower_found objects c.args.name.now c.in-Some.kind c.in-Some.ensures.some)

pub returns-in-Some-clause-none : goal.returns-in-Some-clause-none
returns-in-Some-clause-none c =
    let objects = set_on c.args.side c.args.slots.now.entries in
    subst (λ r. IfNone r (HasNoVlan objects c.args.name.now)) (sym c.lower_name.ensures) (no_lower_found objects c.in-Some.ensures.steady c.args.name.now c.in-Some.kind c.in-Some.ensures.some)

pub returns-in-None-clause-none : goal.returns-in-None-clause-none
returns-in-None-clause-none c = λ lower id mac h. c.in-None.ensures.none (Vlan lower id mac) h
