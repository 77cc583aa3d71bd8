-- One more plain name among those that are known.
use Rattle.std.specs.Prelude.{ℕ, List, false}
use Rattle.kern_model.specs.declared.object.Object.TheVariants as object
use Rattle.graph_objects.specs.declared.slot.Wish.{Wish}
use Rattle.graph_rules.specs.State.{Known}
use Rattle.graph_rules.specs.After.{with_name}

-- what is known with one more plain name
abbrev pub added : Known → List ℕ → Known
added s name = record s { names = with_name s.names name }

-- what a plain name may want: that it is up
abbrev pub plain_wish : List ℕ → ℕ → Wish
plain_wish name id =
    record { object = object.Up name; first = id; second = id; wanted = false }
