use Rattle.std.proofs.Common.{◌∙◌, ap, arith, length}
use Rattle.snap_disk.proofs.LoadLemmas.{same_call, same_quiet, same_join, quiet_join, quiet_call, layout_read, opened_images, after_since, on_ok}
use Rattle.snap_disk.proofs.snap.Snap.open.Goals as goal

pub returns-clause-images : goal.returns-clause-images
returns-clause-images g c = λ f seen.
    let old = g.D.Disk.view c.args.disk.now in
    let behind = g.D.Disk.view c.read_file.new.disk in
    let sound = g.met.D.Disk.sound c.args.disk.now in
    let synced = quiet_call old (g.D.Disk.view c.sync.new.self) sound c.sync.ensures.time c.sync.ensures.crash c.in-Ok.ensures.seen c.sync.ensures.cause.later in
    let loaded = quiet_join old (g.D.Disk.view c.sync.new.self) (g.D.Disk.view c.read_packages.new.disk) synced c.in-Ok-read_packages.ensures.quiet in
    let gated = quiet_join old (g.D.Disk.view c.read_packages.new.disk) (g.D.Disk.view c.read_gates.new.disk) loaded c.in-Ok-read_gates.ensures.quiet in
    let quiet = quiet_join old (g.D.Disk.view c.read_gates.new.disk) behind gated c.in-Ok-read_file.ensures.quiet in
    let named = ap length synced.names in
    let same = layout_read old sound (omega (arith, named, c.in-Ok-read_packages.ensures.count)) f seen _ _ _ _ (c.in-Ok-read_gates.ensures.gates f (loaded.seen ∙ seen))
    (c.deref.ensures.value ∙ c.in-Ok-read_file.ensures.bytes f (gated.seen ∙ seen)) (c.in-Ok-read_packages.ensures.packages f (synced.seen ∙ seen)) in
    opened_images c.args.now old behind (g.D.Disk.view c.settle.new.disk) f _ sound quiet seen same (c.settle.ensures.images f (quiet.seen ∙ seen))

pub returns-clause-after : goal.returns-clause-after
returns-clause-after g c = on_ok c.settle.result _ (λ f seen image left.
    let old = g.D.Disk.view c.args.disk.now in
    let behind = g.D.Disk.view c.read_file.new.disk in
    let sound = g.met.D.Disk.sound c.args.disk.now in
    let synced = quiet_call old (g.D.Disk.view c.sync.new.self) sound c.sync.ensures.time c.sync.ensures.crash c.in-Ok.ensures.seen c.sync.ensures.cause.later in
    let loaded = quiet_join old (g.D.Disk.view c.sync.new.self) (g.D.Disk.view c.read_packages.new.disk) synced c.in-Ok-read_packages.ensures.quiet in
    let gated = quiet_join old (g.D.Disk.view c.read_packages.new.disk) (g.D.Disk.view c.read_gates.new.disk) loaded c.in-Ok-read_gates.ensures.quiet in
    let quiet = quiet_join old (g.D.Disk.view c.read_gates.new.disk) behind gated c.in-Ok-read_file.ensures.quiet in
    let named = ap length synced.names in
    let same = layout_read old sound (omega (arith, named, c.in-Ok-read_packages.ensures.count)) f seen _ _ _ _ (c.in-Ok-read_gates.ensures.gates f (loaded.seen ∙ seen))
    (c.deref.ensures.value ∙ c.in-Ok-read_file.ensures.bytes f (gated.seen ∙ seen)) (c.in-Ok-read_packages.ensures.packages f (synced.seen ∙ seen)) in
    after_since c.args.now old.names behind (g.D.Disk.view c.settle.new.disk) f _ quiet.names same (c.settle.ensures.images f (quiet.seen ∙ seen)) (g.met.D.Disk.sound c.settle.new.disk) image left)

pub returns-clause-same : goal.returns-clause-same
returns-clause-same g c =
    let old = g.D.Disk.view c.args.disk.now in
    let synced = g.D.Disk.view c.sync.new.self in
    let loaded = g.D.Disk.view c.read_packages.new.disk in
    let gated = g.D.Disk.view c.read_gates.new.disk in
    let behind = g.D.Disk.view c.read_file.new.disk in
    let first = same_call old synced c.sync.ensures.time c.in-Ok.ensures.seen c.sync.ensures.cause.later in
    let second = same_join old synced loaded first (same_quiet synced loaded c.in-Ok-read_packages.ensures.quiet) in
    let third = same_join old loaded gated second (same_quiet loaded gated c.in-Ok-read_gates.ensures.quiet) in
    same_join old behind (g.D.Disk.view c.settle.new.disk) (same_join old gated behind third (same_quiet gated behind c.in-Ok-read_file.ensures.quiet)) c.settle.ensures.same
