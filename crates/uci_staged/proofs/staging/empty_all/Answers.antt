use Rattle.std.proofs.Common.{List, ℕ, ◌<◌, length, sym, subst, arith}
use Rattle.uci_staged.proofs.FillLemmas.{emptied_more, follows_join, packages_more}
use Rattle.uci_staged.proofs.staging.empty_all.Goals as goal

pub loop-file-preserved : goal.loop-file-preserved
loop-file-preserved g c =
    let so_far = c.loop-file.invariant in
    let file = c.loop-file.file in
    record {
      low = omega (arith, so_far.low);
      emptied = emptied_more (g.T.Disk.view c.args.disk.now) (g.T.Disk.view c.loop-file.disk) (g.T.Disk.view c.empty.new.disk) file (g.met.T.Disk.sound c.loop-file.disk) so_far.low
          (subst (λ (n : List (List ℕ)). file < length n) (sym so_far.emptied.follows.names) (omega arith)) so_far.emptied c.in-Ok.ensures.follows c.in-Ok.ensures.changes c.in-Ok.ensures.filled;
    }

pub returns-in-Err-clause-follows : goal.returns-in-Err-clause-follows
returns-in-Err-clause-follows g c = follows_join (g.T.Disk.view c.args.disk.now) (g.T.Disk.view c.loop-file.disk) (g.T.Disk.view c.empty.new.disk) c.loop-file.invariant.emptied.follows c.in-Err.ensures.follows

pub returns-in-Err-clause-changes : goal.returns-in-Err-clause-changes
returns-in-Err-clause-changes g c = packages_more (g.T.Disk.view c.args.disk.now) (g.T.Disk.view c.loop-file.disk) (g.T.Disk.view c.empty.new.disk) c.loop-file.file c.loop-file.invariant.low c.loop-file.invariant.emptied.follows
    c.loop-file.invariant.emptied.changes c.in-Err.ensures.changes
