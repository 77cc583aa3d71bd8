use Rattle.std.proofs.Common.{rules}
use Rattle.snap_disk.proofs.JoinLemmas.{stops, stops_after, ends_behind, laid_behind}
use Rattle.snap_disk.proofs.OpeningLemmas.{undoes_gate, undoes_named}
use Rattle.snap_disk.proofs.phases.undo.Goals as goal

pub returns-in_err-set_second_gate-clause-phase : goal.returns-in_err-set_second_gate-clause-phase
returns-in_err-set_second_gate-clause-phase g c = stops _ _ _ _ _ _ _ _ c.set_second_gate.ensures.phase (undoes_gate _ _) (λ X. search rules)

pub restore-requires-clause-laid : goal.restore-requires-clause-laid
restore-requires-clause-laid g c = laid_behind _ _ _ _ _ c.in_ok-set_second_gate.ensures.phase c.requires.laid

pub returns-in_err-restore-clause-phase : goal.returns-in_err-restore-clause-phase
returns-in_err-restore-clause-phase g c = stops_after _ _ _ _ _ _ _ _ _ _ _ _ c.in_ok-set_second_gate.ensures.phase c.restore.ensures.phase (undoes_gate _ _) (undoes_named _ _ c.set_second_gate.ensures.phase.names _) (λ X. search rules)

pub returns-clause-phase : goal.returns-clause-phase
returns-clause-phase g c = ends_behind _ _ _ _ _ _ _ _ _ _ _ c.in_ok-set_second_gate.ensures.phase c.in_ok-restore.ensures.phase (undoes_gate _ _) (undoes_named _ _ c.set_second_gate.ensures.phase.names _)
