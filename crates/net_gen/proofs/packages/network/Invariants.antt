use Rattle.std.proofs.Common.{◌≡◌}
use Rattle.net_gen.specs.Packages.{sections}
use Rattle.net_gen.proofs.packages.network.Given as goal

-- the sections of the numbers so far
abbrev pub invariant-loop-before : goal.invariant-loop-before
invariant-loop-before l = l.sections.items ≡ sections l.standing l.before
