use Rattle.std.proofs.Common.{arith, Err, ◌<◌, length, sym, subst}
use Rattle.std.proofs.lemmas.Grind.{common_steps}
use Rattle.uci_store.specs.Store.{has_failed}
use Rattle.rpc_rules.specs.declared.rpc_error.RpcError.{RpcError}
use Rattle.rpc_uci.specs.Staging.{IsCut, HasCause}
use Rattle.rpc_uci.proofs.StagingLemmas.{each_is_of, staged_all, batch_cut, batch_cause}
use Rattle.rpc_uci.proofs.staging.stage_all.Goals as goal

pub stage_all-requires-clause-one : goal.stage_all-requires-clause-one
stage_all-requires-clause-one g c = each_is_of c.args.name.now c.requires.fits.view c.args.deltas.items c.requires.fits.takes

pub returns-in-Ok-clause-done : goal.returns-in-Ok-clause-done
returns-in-Ok-clause-done g c = staged_all c.args.store.now c.stage_all.new.self c.args.holder c.args.name.now c.args.deltas.items c.requires.fits c.in-Ok.ensures.snap c.in-Ok.ensures.done

pub returns-in-Err-clause-cut : goal.returns-in-Err-clause-cut
returns-in-Err-clause-cut g c =
    let some : 0 < length c.args.deltas.items = grind (arith, common_steps) in
    subst (IsCut c.args.deltas.items) (sym c.refused.ensures)
    (batch_cut c.args.store.now c.args.holder c.args.name.now c.args.deltas.items (g.T.Disk.view c.args.staged.now) (g.T.Disk.view c.stage_all.new.staged) c.in-Err.error c.requires.ready some c.requires.fits c.in-Err.ensures.refused)

pub returns-in-Err-clause-cause : goal.returns-in-Err-clause-cause
returns-in-Err-clause-cause g c =
    subst (λ (e : RpcError). HasCause {X = Unit {0}} (Err e) (has_failed c.stage_all.new.self) (g.T.Disk.view c.args.staged.now) (g.T.Disk.view c.stage_all.new.staged)) (sym c.refused.ensures)
    (batch_cause c.args.store.now c.args.holder c.args.name.now c.args.deltas.items (has_failed c.stage_all.new.self) (g.T.Disk.view c.args.staged.now) (g.T.Disk.view c.stage_all.new.staged) c.in-Err.error c.requires.ready
    c.in-Err.ensures.closes c.requires.fits c.in-Err.ensures.refused)
