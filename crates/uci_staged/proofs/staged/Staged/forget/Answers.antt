use Rattle.std.proofs.Common.{not, nat_eq, ap, sym, subst, ◌∙◌}
use Rattle.uci_staged.specs.declared.change.StagedChange.{StagedChange}
use Rattle.uci_staged.specs.Change.{deltas_in}
use Rattle.uci_staged.specs.Kept.{IsStagedIn, AreStagedIn}
use Rattle.uci_staged.proofs.ChangeLemmas.{each_filter, forgotten_leaves}
use Rattle.uci_staged.proofs.staged.Staged.forget.Goals as goal

pub returns-clause-own : goal.returns-clause-own
returns-clause-own c = λ file. ap (deltas_in 0 file) c.forget.ensures ∙ forgotten_leaves c.args.holder file c.args.self.now.changes.items c.requires

pub returns-clause-lines : goal.returns-clause-lines
returns-clause-lines c = λ names h. subst (AreStagedIn names) (sym c.forget.ensures) (each_filter (IsStagedIn names) (λ (change : StagedChange). not (nat_eq change.holder c.args.holder)) c.args.self.now.changes.items h)
