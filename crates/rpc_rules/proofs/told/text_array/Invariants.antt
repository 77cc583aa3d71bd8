use Rattle.std.proofs.Common.{◌≡◌, ◌++◌, drop, map}
use Rattle.rpc_rules.specs.Told as spec
use Rattle.rpc_rules.proofs.told.text_array.Given as goal

-- the texts so far, and then the others
abbrev pub invariant-loop-text : goal.invariant-loop-text
invariant-loop-text l = l.items ++ map spec.text_item (drop l.text-index l.texts) ≡ map spec.text_item l.texts
