use Rattle.std.proofs.Common.{◌≡◌, ◌++◌, List, map, drop}
use Rattle.std.specs.Prelude.{filter}
use Rattle.plane_words.specs.InOrder.{ordered}
use Rattle.ubus_table.specs.declared.rows.Object.{Object}
use Rattle.ubus_table.specs.Asked.{by_path, is_asked, description}
use Rattle.ubus_requests.proofs.asked.describe.Given as goal

-- what is told of the objects from here on
abbrev pub invariant-loop-place : goal.invariant-loop-place
invariant-loop-place l = (later : List Object)
    → l.fn.told.items ≡ map (description l.request) (ordered by_path (filter (is_asked l.request.path) later))
    → l.told.items ≡ map (description l.request) (ordered by_path (filter (is_asked l.request.path) (drop l.place l.objects ++ later)))
