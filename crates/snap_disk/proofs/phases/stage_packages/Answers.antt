use Rattle.std.proofs.Common.{rules}
use Rattle.snap_disk.proofs.JoinLemmas.{stops, stops_after, ends_behind}
use Rattle.snap_disk.proofs.OpeningLemmas.{stages_prepared, stages_packages}
use Rattle.snap_disk.proofs.phases.stage_packages.Goals as goal

pub returns-in_err-stage-clause-phase : goal.returns-in_err-stage-clause-phase
returns-in_err-stage-clause-phase g c = stops _ _ _ _ _ _ _ _ c.stage.ensures.phase (stages_prepared _ c.args.body.now c.args.new.now) (λ X. search rules)

pub returns-in_err-write_packages-clause-phase : goal.returns-in_err-write_packages-clause-phase
returns-in_err-write_packages-clause-phase g c =
    let names = (g.D.Disk.view c.args.disk.now).names in
    stops_after _ _ _ _ _ _ _ _ _ _ _ _ c.in_ok-stage.ensures.phase c.write_packages.ensures.phase (stages_prepared names c.args.body.now c.args.new.now) (stages_packages names c.args.body.now c.args.new.now) (λ X. search rules)

pub returns-clause-phase : goal.returns-clause-phase
returns-clause-phase g c =
    let names = (g.D.Disk.view c.args.disk.now).names in
    ends_behind _ _ _ _ _ _ _ _ _ _ _ c.in_ok-stage.ensures.phase c.in_ok-write_packages.ensures.phase (stages_prepared names c.args.body.now c.args.new.now) (stages_packages names c.args.body.now c.args.new.now)
