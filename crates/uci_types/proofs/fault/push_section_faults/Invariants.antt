use Rattle.std.proofs.Common.{◌≡◌, ◌++◌, drop}
use Rattle.uci_types.specs.Faults.{section_faults}
use Rattle.uci_types.proofs.fault.push_section_faults.Given as goal

-- the faults so far, and those by the rules that are left
abbrev pub invariant-loop-place : goal.invariant-loop-place
invariant-loop-place l = l.faults ++ section_faults l.at l.section l.place (drop l.place l.rules) ≡ l.initial.faults ++ section_faults l.at l.section 0 l.rules
