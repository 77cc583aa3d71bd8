use Rattle.std.proofs.Common.{IfSome, IfNone, sym, subst}
use Rattle.kern_model.specs.declared.object.LinkKind.{LinkKind}
use Rattle.kern_model.specs.declared.object.Object.TheVariants.{Link}
use Rattle.kern_model.specs.ObjectOrder.{Has}
use Rattle.graph_objects.specs.Slots.{set_on}
use Rattle.graph_objects.proofs.LookupLemmas.{no_link, kind_found, no_kind_found}
use Rattle.graph_objects.proofs.slots.link_of.Goals as goal

pub returns-in-Some-clause-some : goal.returns-in-Some-clause-some
returns-in-Some-clause-some c =
    let objects = set_on c.args.side c.args.slots.now.entries in
    subst (λ r. IfSome r (λ kind. Has objects (Link c.args.name.now kind))) (sym c.link_kind.ensures) (kind_found objects c.args.name.now c.in-Some.object c.in-Some.ensures.found)

pub returns-in-Some-clause-none : goal.returns-in-Some-clause-none
returns-in-Some-clause-none c =
    let objects = set_on c.args.side c.args.slots.now.entries in
    subst (λ r. IfNone r ((kind : LinkKind) → Has objects (Link c.args.name.now kind) → ⊥)) (sym c.link_kind.ensures) (no_kind_found objects c.args.name.now c.in-Some.object c.in-Some.ensures.found)

pub returns-in-None-clause-none : goal.returns-in-None-clause-none
returns-in-None-clause-none c = no_link (set_on c.args.side c.args.slots.now.entries) c.args.name.now c.in-None.ensures.found
