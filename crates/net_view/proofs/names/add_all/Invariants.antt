use Rattle.std.proofs.Common.{take}
use Rattle.std.specs.Prelude.{bytes_eq}
use Rattle.std.specs.List.{list_any}
use Rattle.net_view.specs.Names.{Adds}
use Rattle.net_view.proofs.names.add_all.Given as goal

-- the names so far are added
abbrev pub invariant-loop-name : goal.invariant-loop-name
invariant-loop-name l = Adds l.initial.names l.names (λ q. list_any (λ n. bytes_eq n q) (take l.name-index l.more))
