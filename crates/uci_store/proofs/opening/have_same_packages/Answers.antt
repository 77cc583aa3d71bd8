use Rattle.std.proofs.Common.{refl, arith}
use Rattle.uci_store.proofs.StoreLemmas.{same_names}
use Rattle.uci_store.proofs.opening.have_same_packages.Goals as goal

pub returns : goal.returns
returns g c = (
  λ _. same_names (g.T.Disk.view c.args.staged.now).names (g.D.Disk.view c.args.files.now).names (omega arith) (λ k within. c.loop-file.invariant k (omega (arith, within))),
  λ _. refl,
)
