use Rattle.std.proofs.Common.{◌≡◌, ◌++◌, drop}
use Rattle.uci_types.specs.Faults.{faults_from}
use Rattle.uci_types.proofs.fault.check.Given as goal

-- the faults so far, and those of the sections that are left
abbrev pub invariant-loop-at : goal.invariant-loop-at
invariant-loop-at l = l.faults ++ faults_from l.at (drop l.at l.sections) l.rules ≡ faults_from 0 l.sections l.rules
