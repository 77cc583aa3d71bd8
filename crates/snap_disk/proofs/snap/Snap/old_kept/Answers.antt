use Rattle.std.proofs.Common.{◌<◌, ◌^◌, length, ap, sym, arith, subst}
use Rattle.snap_disk.specs.Phase.{GivesBack, ArePackageFiles}
use Rattle.snap_disk.proofs.OldLemmas.{old_few, old_rising, old_packages, gives_back, AreRising}
use Rattle.snap_disk.proofs.ReadBackLemmas.{body_back}
use Rattle.snap_disk.proofs.snap.Snap.old_kept.Goals as goal

pub returns-clause-few : goal.returns-clause-few
returns-clause-few g c =
    let fewer = old_few c.args.new.now 2 c.args.self.now.packages.items in
    let e = ap length c.in_ok-files.ensures in
    omega (arith, fewer, e, c.requires.open.within.few)

pub returns-clause-staged : goal.returns-clause-staged
returns-clause-staged g c =
    let ps = c.args.self.now.packages.items in
    let new = c.args.new.now in
    let is = sym c.in_ok-files.ensures in
    let count = length (g.D.Disk.view c.args.disk.now).names in
    let fewer = old_few new 2 ps in
    let e = ap length c.in_ok-files.ensures in
    let few : length c.in_ok-files.files < 2 ^ 32 = omega (arith, fewer, e, c.requires.open.within.few) in
    let files = subst (ArePackageFiles count) is (old_packages new count ps c.requires.open.count c.requires.open.within) in
    record {
      reads = body_back (g.D.Disk.view c.args.disk.now).names c.count-count.ensures.named (record { pending = c.args.pending; files = c.in_ok-files.files }) (omega arith) (omega arith) few files
          (subst (AreRising 2) is (old_rising new 2 ps));
      back = subst (λ (f : _). GivesBack f new ps) is (gives_back new ps);
      files = files;
    }
