-- The links that a graph holds.
use Rattle.std.specs.Prelude.{ℕ, List, map, Contains}
use Rattle.kern_model.specs.declared.object.LinkKind.{LinkKind}
use Rattle.kern_model.specs.declared.object.Object.TheVariants as object
use Rattle.kern_model.specs.ObjectOrder.{Has}
use Rattle.graph_rules.specs.State.{State}
use Rattle.graph_wishes.specs.Wishes.{mays}

-- each link that is held is one that its row makes, whether the name is used or not
abbrev pub HoldsLinksOfRows : State → Type 0
HoldsLinksOfRows s =
    (name : List ℕ) (kind : LinkKind) → Has s.held (object.Link name kind)
    → Contains (map (λ m. m.object) (mays s.known)) (object.Link name kind)
