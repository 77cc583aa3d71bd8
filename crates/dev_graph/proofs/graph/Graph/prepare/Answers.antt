use Rattle.std.proofs.Common.{sym, ap, subst, map, ◌∙◌}
use Rattle.graph_objects.specs.Marks.{Marks, held_of}
use Rattle.graph_rules.specs.State.{State}
use Rattle.graph_tables.specs.Wishes.{mays}
use Rattle.graph_tables.specs.Wished.{wish_in}
use Rattle.graph_tables.specs.Lists.{HaveSame}
use Rattle.dev_graph.specs.Inside.{known_in}
use Rattle.dev_graph.proofs.graph.Graph.prepare.Goals as goal

pub invariant_of-self : goal.invariant_of-self
invariant_of-self c =
    let s = known_in c.self.inside.names in
    record {
      whole = c.self.invariant.whole;
      used = c.self.invariant.used;
      looked = c.self.invariant.looked;
      room = c.self.invariant.room;
      none = c.self.invariant.none;
      wishes =
          subst (λ (m : Marks). HaveSame m.wishes (map (wish_in s) (mays s))) (sym c.prepare.ensures) c.self.invariant.wishes;
    }

pub returns : goal.returns
returns c = ap (λ (m : Marks). let s : State = record { known = known_in c.self.inside.names; held = held_of m; loads = c.self.inside.loads } in s) c.prepare.ensures ∙ c.self.view_is
