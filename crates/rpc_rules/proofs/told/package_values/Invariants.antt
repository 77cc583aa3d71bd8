use Rattle.std.proofs.Common.{◌≡◌, ◌++◌, drop}
use Rattle.rpc_rules.specs.Told as spec
use Rattle.rpc_rules.proofs.told.package_values.Given as goal

-- the sections so far, and then the others
abbrev pub invariant-loop-place : goal.invariant-loop-place
invariant-loop-place l = l.values.items ++ spec.sections_from l.place (drop l.place l.sections) ≡ spec.sections_from 0 l.sections
