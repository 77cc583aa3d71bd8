use Rattle.std.proofs.Common.{rules}
use Rattle.snap_disk.specs.Phase.{Prepares}
use Rattle.snap_disk.proofs.JoinLemmas.{stops, stops_after, ends_behind, laid_behind}
use Rattle.snap_disk.proofs.OpeningLemmas.{prepares_second_gate, prepares_body, prepares_gate}
use Rattle.snap_disk.proofs.phases.stage.Goals as goal

pub returns-in_err-set_second_gate-clause-phase : goal.returns-in_err-set_second_gate-clause-phase
returns-in_err-set_second_gate-clause-phase g c = stops _ _ _ _ _ _ _ _ c.set_second_gate.ensures.phase (prepares_second_gate _ c.args.body.now) (λ X. search rules)

pub returns-in_err-write_body-clause-phase : goal.returns-in_err-write_body-clause-phase
returns-in_err-write_body-clause-phase g c =
    let body = c.args.body.now in
    stops_after _ _ _ _ _ _ _ _ _ _ _ _ c.in_ok-set_second_gate.ensures.phase c.write_body.ensures.phase (prepares_second_gate _ body) (prepares_body _ body) (λ X. search rules)

pub set_gate-requires-clause-laid : goal.set_gate-requires-clause-laid
set_gate-requires-clause-laid g c = laid_behind _ _ _ _ _ c.in_ok-write_body.ensures.phase (laid_behind _ _ _ _ _ c.in_ok-set_second_gate.ensures.phase c.requires.laid)

pub returns-in_err-set_gate-clause-phase : goal.returns-in_err-set_gate-clause-phase
returns-in_err-set_gate-clause-phase g c =
    let body = c.args.body.now in
    let names = (g.D.Disk.view c.args.disk.now).names in
    let kept = ends_behind _ _ _ _ _ (tt {0}) _ _ (Prepares names body) _ _ c.in_ok-set_second_gate.ensures.phase c.in_ok-write_body.ensures.phase (prepares_second_gate names body) (prepares_body names body) in
    stops_after _ _ _ _ _ _ _ _ _ _ _ _ kept c.set_gate.ensures.phase (λ l k h. h) (prepares_gate names body) (λ X. search rules)

pub returns-clause-phase : goal.returns-clause-phase
returns-clause-phase g c =
    let body = c.args.body.now in
    let names = (g.D.Disk.view c.args.disk.now).names in
    let kept = ends_behind _ _ _ _ _ (tt {0}) _ _ (Prepares names body) _ _ c.in_ok-set_second_gate.ensures.phase c.in_ok-write_body.ensures.phase (prepares_second_gate names body) (prepares_body names body) in
    ends_behind _ _ _ _ _ _ _ _ _ _ _ kept c.in_ok-set_gate.ensures.phase (λ l k h. h) (prepares_gate names body)
