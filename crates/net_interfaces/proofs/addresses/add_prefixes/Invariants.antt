use Rattle.std.proofs.Common.{◌≡◌, ◌++◌, drop}
use Rattle.net_interfaces.specs.Addresses as spec
use Rattle.net_interfaces.proofs.addresses.add_prefixes.Given as goal

-- those so far, and then those of the other words
abbrev pub invariant-loop-word : goal.invariant-loop-word
invariant-loop-word l = l.addresses ++ spec.prefixes l.family l.alone (drop l.word-index l.words) ≡ l.initial.addresses ++ spec.prefixes l.family l.alone l.words
