use Rattle.std.proofs.Common.{arith, ◌<◌, ◌∙◌, ap, sym, take, take_all, length, Some, subst, rules}
use Rattle.plane_disk.specs.Files.{Files, with_bytes}
use Rattle.snap_disk.specs.Opened.{put}
use Rattle.snap_disk.specs.Phase.{Layout, files_of, AnyPackages}
use Rattle.snap_disk.proofs.Moments.{tells_join, tells_sync, calls_on, syncs_on}
use Rattle.snap_disk.proofs.FillLemmas.{on_after_sync}
use Rattle.snap_disk.proofs.PutLemmas.{beside_filled, put_next, stands_at, package_file_at, package_written}
use Rattle.snap_disk.proofs.phases.write_packages.Goals as goal

pub fill-requires : goal.fill-requires
fill-requires g c =
    let file = c.file-item.result in
    let is = package_file_at _ c.args.files.now c.loop-file.file-index file c.requires (omega arith) c.file-item.is in
    subst (λ (n : _). file.file < length n) (sym c.loop-file.invariant.names) is.number

pub returns-in_err-fill-clause-phase : goal.returns-in_err-fill-clause-phase
returns-in_err-fill-clause-phase g c =
    let file = c.file-item.result in
    let files = c.args.files.now in
    let is = package_file_at _ files c.loop-file.file-index file c.requires (omega arith) c.file-item.is in
    let stands = stands_at files c.loop-file.file-index file (omega arith) c.file-item.is in
    let fill = c.fill.ensures.fills in
    let size = ap length c.as_bytes.ensures in
    record {
      names = fill.names ∙ c.loop-file.invariant.names;
      silent = λ none. fill.silent (c.loop-file.invariant.silent none);
      tells = tells_join (g.D.Disk.view c.args.disk.now).seen (g.D.Disk.view c.loop-file.disk).seen (g.D.Disk.view c.fill.new.disk).seen c.loop-file.invariant.tells fill.tells;
      images = λ l on. (calls_on _ _ _ (AnyPackages files l) _ (c.loop-file.invariant.images l on) fill.images (g.met.D.Disk.sound c.fill.new.disk)
          (λ d e. beside_filled files file.file _ l d e is.low (omega (arith, is.small, size)) stands)).leaves;
      ends = λ l on. search rules;
    }

pub loop-file-preserved : goal.loop-file-preserved
loop-file-preserved g c =
    let file = c.file-item.result in
    let files = c.args.files.now in
    let is = package_file_at _ files c.loop-file.file-index file c.requires (omega arith) c.file-item.is in
    let stands = stands_at files c.loop-file.file-index file (omega arith) c.file-item.is in
    let so_far = c.loop-file.invariant in
    let fill = c.in_ok-fill.ensures in
    let size = ap length c.as_bytes.ensures in
    record {
      names = fill.fills.names ∙ so_far.names;
      silent = λ none. fill.fills.silent (so_far.silent none);
      tells = tells_join (g.D.Disk.view c.args.disk.now).seen (g.D.Disk.view c.loop-file.disk).seen (g.D.Disk.view c.fill.new.disk).seen so_far.tells fill.fills.tells;
      images = λ l on. calls_on _ _ _ (AnyPackages files l) _ (so_far.images l on) fill.fills.images (g.met.D.Disk.sound c.fill.new.disk) (λ d e. beside_filled files file.file _ l d e is.low (omega (arith, is.small, size)) stands);
      seen = λ l on.
          let so : Layout = record l { packages = put (take c.loop-file.file-index files) l.packages } in
          let bytes = ap (λ (b : _). with_bytes (files_of so) file.file b) c.as_bytes.ensures in
          let next = ap (λ (p : Files). files_of (record l { packages = p })) (sym (put_next files c.loop-file.file-index file l.packages (omega arith) c.file-item.is)) in
          fill.fills.seen (files_of so) (so_far.seen l on) ∙ ap (λ (x : Files). Some x) (bytes ∙ (package_written so file.file file.bytes is.low ∙ next));
      later = omega (arith, fill.cause.later, so_far.later);
    }

pub returns-in_err-sync-clause-phase : goal.returns-in_err-sync-clause-phase
returns-in_err-sync-clause-phase g c =
    let sync = c.sync.ensures in
    record {
      names = sync.time.names ∙ c.loop-file.invariant.names;
      silent = λ none. sync.time.silent (c.loop-file.invariant.silent none);
      tells = tells_join (g.D.Disk.view c.args.disk.now).seen (g.D.Disk.view c.loop-file.disk).seen (g.D.Disk.view c.sync.new.self).seen c.loop-file.invariant.tells
          (tells_sync (g.D.Disk.view c.loop-file.disk) (g.D.Disk.view c.sync.new.self) c.sync.result sync.seen sync.stays);
      images = λ l on. (syncs_on _ _ _ (AnyPackages c.args.files.now l) (c.loop-file.invariant.images l on) sync.time sync.crash).leaves;
      ends = λ l on. search rules;
    }

pub returns-clause-phase : goal.returns-clause-phase
returns-clause-phase g c =
    let sync = c.sync.ensures in
    let files = c.args.files.now in
    record {
      names = sync.time.names ∙ c.loop-file.invariant.names;
      silent = λ none. sync.time.silent (c.loop-file.invariant.silent none);
      tells = tells_join (g.D.Disk.view c.args.disk.now).seen (g.D.Disk.view c.loop-file.disk).seen (g.D.Disk.view c.sync.new.self).seen c.loop-file.invariant.tells
          (tells_sync (g.D.Disk.view c.loop-file.disk) (g.D.Disk.view c.sync.new.self) c.sync.result sync.seen sync.stays);
      images = λ l on. (syncs_on _ _ _ (AnyPackages files l) (c.loop-file.invariant.images l on) sync.time sync.crash).leaves;
      ends = λ l on.
          let whole = ap (λ (f : _). Some (files_of (record l { packages = put f l.packages }))) (take_all c.loop-file.file-index files (omega arith)) in
          on_after_sync (g.D.Disk.view c.loop-file.disk) (g.D.Disk.view c.sync.new.self) _ (c.loop-file.invariant.seen l on ∙ whole) c.in_ok-sync.ensures.seen c.in_ok-sync.ensures.whole;
    }
