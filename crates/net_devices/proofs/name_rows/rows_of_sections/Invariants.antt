use Rattle.std.proofs.Common.{◌≡◌, ◌++◌, drop}
use Rattle.net_devices.specs.NameRows as spec
use Rattle.net_devices.proofs.name_rows.rows_of_sections.Given as goal

-- the rows so far, and then those of the other sections
abbrev pub invariant-loop-section : goal.invariant-loop-section
invariant-loop-section l = l.rows ++ spec.device_rows l.said (drop l.section-index l.sections) ≡ spec.device_rows l.said l.sections
