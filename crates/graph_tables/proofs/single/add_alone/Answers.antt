use Rattle.std.proofs.Common.{List, [], ◌∷◌, ap}
use Rattle.graph_objects.specs.declared.slot.Wish.{Wish}
use Rattle.graph_tables.proofs.MoreLemmas.{as_well}
use Rattle.graph_tables.proofs.single.add_alone.Goals as goal

pub returns : goal.returns
returns c = as_well c.add.result c.args.wishes.now.items _ _ _ (ap (λ (w : Wish). let ws : List Wish = w ∷ [] in ws) c.wish.ensures) c.add.ensures
