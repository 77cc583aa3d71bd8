use Rattle.std.proofs.Common.{◌∙◌, rules}
use Rattle.snap_disk.specs.Phase.{AnyBody}
use Rattle.snap_disk.proofs.Moments.{tells_join, tells_sync, syncs_on}
use Rattle.snap_disk.proofs.FillLemmas.{body_filled, on_after_sync}
use Rattle.snap_disk.proofs.phases.write_body.Goals as goal

pub returns-in_err-fill-clause-phase : goal.returns-in_err-fill-clause-phase
returns-in_err-fill-clause-phase g c =
    let fill = c.fill.ensures.fills in
    record {
      names = fill.names;
      silent = fill.silent;
      tells = fill.tells;
      images = λ l on. (body_filled _ _ _ (g.met.D.Disk.sound c.args.disk.now) (g.met.D.Disk.sound c.fill.new.disk) fill.images l on).leaves;
      ends = λ l on. search rules;
    }

pub returns-in_err-sync-clause-phase : goal.returns-in_err-sync-clause-phase
returns-in_err-sync-clause-phase g c =
    let fill = c.fill.ensures.fills in
    let sync = c.sync.ensures in
    record {
      names = sync.time.names ∙ fill.names;
      silent = λ none. sync.time.silent (fill.silent none);
      tells = tells_join (g.D.Disk.view c.args.disk.now).seen (g.D.Disk.view c.fill.new.disk).seen (g.D.Disk.view c.sync.new.self).seen fill.tells
          (tells_sync (g.D.Disk.view c.fill.new.disk) (g.D.Disk.view c.sync.new.self) c.sync.result sync.seen sync.stays);
      images = λ l on. (syncs_on _ _ _ (AnyBody l) (body_filled _ _ _ (g.met.D.Disk.sound c.args.disk.now) (g.met.D.Disk.sound c.fill.new.disk) fill.images l on) sync.time sync.crash).leaves;
      ends = λ l on. search rules;
    }

pub returns-clause-phase : goal.returns-clause-phase
returns-clause-phase g c =
    let fill = c.fill.ensures.fills in
    let sync = c.sync.ensures in
    record {
      names = sync.time.names ∙ fill.names;
      silent = λ none. sync.time.silent (fill.silent none);
      tells = tells_join (g.D.Disk.view c.args.disk.now).seen (g.D.Disk.view c.fill.new.disk).seen (g.D.Disk.view c.sync.new.self).seen fill.tells
          (tells_sync (g.D.Disk.view c.fill.new.disk) (g.D.Disk.view c.sync.new.self) c.sync.result sync.seen sync.stays);
      images = λ l on. (syncs_on _ _ _ (AnyBody l) (body_filled _ _ _ (g.met.D.Disk.sound c.args.disk.now) (g.met.D.Disk.sound c.fill.new.disk) fill.images l on) sync.time sync.crash).leaves;
      ends = λ l on. on_after_sync (g.D.Disk.view c.fill.new.disk) (g.D.Disk.view c.sync.new.self) _ (c.in_ok-fill.ensures.fills.seen _ on.seen) c.in_ok-sync.ensures.seen c.in_ok-sync.ensures.whole;
    }
