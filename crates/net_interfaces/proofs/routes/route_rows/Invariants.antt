use Rattle.std.proofs.Common.{◌≡◌, ◌++◌, drop}
use Rattle.net_interfaces.specs.Routes as spec
use Rattle.net_interfaces.proofs.routes.route_rows.Given as goal

-- the rows so far, and then those of the other sections
abbrev pub invariant-loop-section : goal.invariant-loop-section
invariant-loop-section l = l.rows ++ spec.route_rows l.interfaces (drop l.section-index l.sections) ≡ spec.route_rows l.interfaces l.sections
