use Rattle.std.proofs.Common.{arith}
use Rattle.uci_store.proofs.StoreLemmas.{names_read}
use Rattle.uci_store.proofs.opening.read_names.Goals as goal

pub returns-clause-named : goal.returns-clause-named
returns-clause-named g c = names_read (g.D.Disk.view c.args.disk.now).names c.loop-file.names.items c.loop-file.file c.count-file-end.ensures.named (omega arith) c.loop-file.invariant.so_far
