use Rattle.std.proofs.Common.{◌≡◌, ◌≤◌, take, length}
use Rattle.std.specs.Prelude.{filter}
use Rattle.net_rules.specs.Firsts.{firsts}
use Rattle.net_rules.specs.Used.{uses}
use Rattle.net_rules.specs.Inputs.{facts_of}
use Rattle.net_wants.proofs.users.interfaces_using.Given as goal

-- those of the interfaces so far are counted
abbrev pub invariant-loop-place : goal.invariant-loop-place
invariant-loop-place l = (l.count ≡ length (filter (uses (facts_of l.inputs) l.name) (firsts (λ row. row.name) (take l.place l.interfaces)))) × (l.count ≤ l.place)
