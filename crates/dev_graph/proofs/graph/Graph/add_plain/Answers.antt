use Rattle.std.proofs.Common.{arith, length, Some, map, refl, ap, subst, ◌∙◌}
use Rattle.graph_objects.specs.Marks.{held_of}
use Rattle.graph_tables.specs.Wishes.{mays}
use Rattle.graph_tables.specs.Wished.{wish_in}
use Rattle.graph_tables.specs.Lists.{AreUsed, HaveSame}
use Rattle.dev_graph.specs.Inside.{known_in}
use Rattle.dev_graph.proofs.AddLemmas.{place_before, whole_either, tied_after_adding}
use Rattle.dev_graph.proofs.graph.Graph.add_plain.Goals as goal

pub add_to-requires-clause-room : goal.add_to-requires-clause-room
add_to-requires-clause-room c = omega (arith, c.self.invariant.room, ap (λ n. length (known_in n).names) c.in-Some.is)

pub add_to-requires-clause-size : goal.add_to-requires-clause-size
add_to-requires-clause-size c = c.self.invariant.used ∙ ap (λ n. length (known_in n).names) c.in-Some.is

pub add_to-requires-clause-used : goal.add_to-requires-clause-used
add_to-requires-clause-used c = subst (λ n. AreUsed (known_in n) c.self.inside.used.items) c.in-Some.is c.self.invariant.looked

pub add_to-requires-clause-wishes : goal.add_to-requires-clause-wishes
add_to-requires-clause-wishes c = subst (λ n. HaveSame c.self.inside.objects.wishes (map (wish_in (known_in n)) (mays (known_in n)))) c.in-Some.is c.self.invariant.wishes

pub invariant_of-self : goal.invariant_of-self
invariant_of-self c =
    let other = place_before c.self.inside.names (held_of c.self.inside.objects) c.self.inside.loads c.args.self.now c.self.view_is c.in-Some.names c.args.name (ap known_in c.in-Some.is) c.requires in
    let whole = whole_either c.add_to.result c.in-Some.names c.add_to.new.names c.args.name (c.self.invariant.whole c.in-Some.names c.in-Some.is) other c.add_to.ensures.ok c.add_to.ensures.err in
    tied_after_adding (record { names = Some c.add_to.new.names; objects = c.add_to.new.objects; used = c.add_to.new.used; uses = c.add_to.new.uses; loads = c.self.inside.loads }) c.add_to.new.names refl whole c.add_to.ensures.size
    c.add_to.ensures.used c.add_to.ensures.wishes c.add_to.ensures.room (c.add_to.ensures.uses ∙ c.self.invariant.none)
