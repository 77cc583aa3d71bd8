use Rattle.std.proofs.Common.{◌≡◌, ◌++◌, drop}
use Rattle.net_interfaces.specs.Interfaces as spec
use Rattle.net_interfaces.proofs.interfaces.interface_rows.Given as goal

-- the rows so far, and then those of the other sections
abbrev pub invariant-loop-section : goal.invariant-loop-section
invariant-loop-section l = l.rows ++ spec.interface_rows (drop l.section-index l.sections) ≡ spec.interface_rows l.sections
