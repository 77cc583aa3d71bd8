use Rattle.std.proofs.Common.{rules}
use Rattle.snap_disk.proofs.JoinLemmas.{stops, stops_after, ends_behind, laid_behind}
use Rattle.snap_disk.proofs.OpeningLemmas.{restores_packages, restores_gate}
use Rattle.snap_disk.proofs.phases.restore.Goals as goal

pub returns-in_err-write_packages-clause-phase : goal.returns-in_err-write_packages-clause-phase
returns-in_err-write_packages-clause-phase g c = stops _ _ _ _ _ _ _ _ c.write_packages.ensures.phase (restores_packages _ _) (λ X. search rules)

pub set_gate-requires-clause-laid : goal.set_gate-requires-clause-laid
set_gate-requires-clause-laid g c = laid_behind _ _ _ _ _ c.in_ok-write_packages.ensures.phase c.requires.laid

pub returns-in_err-set_gate-clause-phase : goal.returns-in_err-set_gate-clause-phase
returns-in_err-set_gate-clause-phase g c = stops_after _ _ _ _ _ _ _ _ _ _ _ _ c.in_ok-write_packages.ensures.phase c.set_gate.ensures.phase (restores_packages _ _) (restores_gate _ _ _ c.requires.files) (λ X. search rules)

pub returns-clause-phase : goal.returns-clause-phase
returns-clause-phase g c = ends_behind _ _ _ _ _ _ _ _ _ _ _ c.in_ok-write_packages.ensures.phase c.in_ok-set_gate.ensures.phase (restores_packages _ _) (restores_gate _ _ _ c.requires.files)
