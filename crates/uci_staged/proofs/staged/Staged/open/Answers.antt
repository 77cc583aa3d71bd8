use Rattle.std.proofs.Common.{List, ℕ, ◌<◌, length, sym, subst, arith}
use Rattle.uci_staged.proofs.ReadLemmas.{reads_join, read_from, one_more, all_read, refused_later}
use Rattle.uci_staged.proofs.staged.Staged.open.Goals as goal

pub read_changes-requires : goal.read_changes-requires
read_changes-requires g c = subst (λ (n : List (List ℕ)). c.loop-file.file < length n) (sym c.loop-file.invariant.reads.names) (omega arith)

pub loop-file-preserved : goal.loop-file-preserved
loop-file-preserved g c =
    let so_far = c.loop-file.invariant in
    let old = g.T.Disk.view c.args.disk.now in
    let file = c.loop-file.file in
    record {
      reads = reads_join _ _ _ so_far.reads c.in-Ok.ensures.reads;
      low = omega (arith, so_far.low);
      so_far = one_more old file c.loop-file.changes.items c.read_changes.new.changes.items so_far.low (omega arith) so_far.so_far (read_from old (g.T.Disk.view c.loop-file.disk) file _ _ so_far.reads c.in-Ok.ensures.read);
    }

pub returns-clause-on : goal.returns-clause-on
returns-clause-on g c =
    let so_far = c.loop-file.invariant in
    let all = all_read (g.T.Disk.view c.args.disk.now) (g.T.Disk.view c.loop-file.disk) c.loop-file.file c.loop-file.changes.items (omega arith) so_far.reads so_far.so_far in
    record { lines = all.0; kept = all.1 }

pub returns-in-Err-clause-refused : goal.returns-in-Err-clause-refused
returns-in-Err-clause-refused g c = refused_later (g.T.Disk.view c.args.disk.now) (g.T.Disk.view c.loop-file.disk) (g.T.Disk.view c.read_changes.new.disk) c.in-Err.error c.loop-file.invariant.reads c.in-Err.ensures.refused
