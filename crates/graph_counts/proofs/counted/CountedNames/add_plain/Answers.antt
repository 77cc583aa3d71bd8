use Rattle.std.proofs.Common.{◌≡◌, ◌++◌, ◌∷◌, [], List, refl, ap, sym, subst, ◌∙◌}
use Rattle.net_rules.specs.Rows.{rowless}
use Rattle.use_counts.specs.declared.node.Row.{Row}
use Rattle.use_counts.specs.Network.{Network, loaded}
use Rattle.graph_rules.specs.State.{Named, Known, place_among}
use Rattle.graph_rules.specs.After.{with_name}
use Rattle.graph_counts.specs.Counted.{network_of, node_row}
use Rattle.graph_counts.specs.Told.{HasFewClaims}
use Rattle.graph_counts.specs.Inside.{known_of}
use Rattle.graph_counts.proofs.AddLemmas.{network_added}
use Rattle.graph_counts.proofs.GrowLemmas.{sound_added, few_with_name}
use Rattle.graph_counts.proofs.counted.CountedNames.add_plain.Goals as goal

pub add-requires : goal.add-requires
add-requires c = ap (λ (s : Known). place_among s.names c.args.name) c.self.view_is ∙ c.requires

pub invariant_of-self-in-Ok : goal.invariant_of-self-in-Ok
invariant_of-self-in-Ok c =
    let s : Known = known_of c.self.inside in
    let names : List Named = c.add.new.self in
    let added : names ≡ with_name c.self.inside.names c.args.name = c.in_ok-add.ensures.ok in
    let new = ap (λ (k : Known). place_among k.names c.args.name) c.self.view_is ∙ c.requires in
    let more : c.add-2.new.self ≡ (let m : Network = record c.self.inside.counts { members = c.self.inside.counts.members ++ loaded (node_row (rowless c.args.name)) ∷ [] } in m) =
    c.in-Ok.ensures.ok ∙ ap (λ (r : Row). let m : Network = record c.self.inside.counts { members = c.self.inside.counts.members ++ loaded r ∷ [] } in m) c.rowless_row.ensures in
    record {
      sound = sound_added s c.args.name s.rows s.vlans names s.radio c.self.invariant.sound new refl added refl;
      few = subst HasFewClaims (sym added) (few_with_name c.self.inside.names c.args.name c.self.invariant.few);
      counts =
          network_added s c.self.invariant.sound c.args.name new c.self.inside.counts c.add-2.new.self c.self.invariant.counts more
          ∙ ap (λ (ns : List Named). network_of (record s { names = ns })) (sym added);
    }
