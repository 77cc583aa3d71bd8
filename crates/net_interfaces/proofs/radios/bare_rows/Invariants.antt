use Rattle.std.proofs.Common.{◌≡◌, [], ◌++◌, map, drop}
use Rattle.net_interfaces.specs.Radios as spec
use Rattle.net_interfaces.proofs.radios.bare_rows.Given as goal

-- the rows so far, and then those of the other sections
abbrev pub invariant-loop-section : goal.invariant-loop-section
invariant-loop-section l = l.rows.items ++ map (λ radio. spec.radio_row radio []) (spec.radios (drop l.section-index l.sections)) ≡ map (λ radio. spec.radio_row radio []) (spec.radios l.sections)
