use Rattle.std.proofs.Common.{◌≡◌, take}
use Rattle.net_interfaces.specs.Radios as spec
use Rattle.net_interfaces.proofs.radios.radio_rows.Given as goal

-- the rows have those of the sections so far
abbrev pub invariant-loop-section : goal.invariant-loop-section
invariant-loop-section l = l.rows.items ≡ spec.rows_from (spec.radio_names l.sections) (take l.section-index l.sections) 0 (spec.radios l.sections)
