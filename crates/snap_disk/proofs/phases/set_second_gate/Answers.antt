use Rattle.std.proofs.Common.{◌∙◌, rules}
use Rattle.plane_disk.specs.Files.{TornAt}
use Rattle.snap_disk.specs.Phase.{AnySecondGate}
use Rattle.snap_disk.proofs.Moments.{tells_step, tells_join, tells_sync, told, syncs_on}
use Rattle.snap_disk.proofs.FillLemmas.{second_gate_written, on_after_sync}
use Rattle.snap_disk.proofs.phases.set_second_gate.Goals as goal

pub returns-in_err-write_at-clause-phase : goal.returns-in_err-write_at-clause-phase
returns-in_err-write_at-clause-phase g c =
    let write = c.write_at.ensures in
    record {
      names = write.time.names;
      silent = write.time.silent;
      tells = tells_step (TornAt 0 1 1) (g.D.Disk.view c.args.disk.now).seen (g.D.Disk.view c.write_at.new.self).seen write.torn;
      images = λ l on. (second_gate_written _ _ (g.met.D.Disk.sound c.args.disk.now) write.time write.crash l on).leaves;
      ends = λ l on. search rules;
    }

pub returns-in_err-sync-clause-phase : goal.returns-in_err-sync-clause-phase
returns-in_err-sync-clause-phase g c =
    let write = c.write_at.ensures in
    let sync = c.sync.ensures in
    record {
      names = sync.time.names ∙ write.time.names;
      silent = λ none. sync.time.silent (write.time.silent none);
      tells = tells_join (g.D.Disk.view c.args.disk.now).seen (g.D.Disk.view c.write_at.new.self).seen (g.D.Disk.view c.sync.new.self).seen
          (tells_step (TornAt 0 1 1) (g.D.Disk.view c.args.disk.now).seen (g.D.Disk.view c.write_at.new.self).seen write.torn)
          (tells_sync (g.D.Disk.view c.write_at.new.self) (g.D.Disk.view c.sync.new.self) c.sync.result sync.seen sync.stays);
      images = λ l on. (syncs_on _ _ _ (AnySecondGate l) (second_gate_written _ _ (g.met.D.Disk.sound c.args.disk.now) write.time write.crash l on) sync.time sync.crash).leaves;
      ends = λ l on. search rules;
    }

pub returns-clause-phase : goal.returns-clause-phase
returns-clause-phase g c =
    let write = c.write_at.ensures in
    let sync = c.sync.ensures in
    record {
      names = sync.time.names ∙ write.time.names;
      silent = λ none. sync.time.silent (write.time.silent none);
      tells = tells_join (g.D.Disk.view c.args.disk.now).seen (g.D.Disk.view c.write_at.new.self).seen (g.D.Disk.view c.sync.new.self).seen
          (tells_step (TornAt 0 1 1) (g.D.Disk.view c.args.disk.now).seen (g.D.Disk.view c.write_at.new.self).seen write.torn)
          (tells_sync (g.D.Disk.view c.write_at.new.self) (g.D.Disk.view c.sync.new.self) c.sync.result sync.seen sync.stays);
      images = λ l on. (syncs_on _ _ _ (AnySecondGate l) (second_gate_written _ _ (g.met.D.Disk.sound c.args.disk.now) write.time write.crash l on) sync.time sync.crash).leaves;
      ends = λ l on. on_after_sync (g.D.Disk.view c.write_at.new.self) (g.D.Disk.view c.sync.new.self) _ (told _ _ _ c.in_ok-write_at.ensures.written on.seen) c.in_ok-sync.ensures.seen c.in_ok-sync.ensures.whole;
    }
