use Rattle.std.proofs.Common.{not, nat_eq, rules}
use Rattle.std.proofs.lemmas.Fn.{filter_same}
use Rattle.uci_staged.specs.declared.change.StagedChange.{StagedChange}
use Rattle.uci_staged.proofs.staged.forget.Goals as goal

pub returns : goal.returns
returns c = filter_same _ (λ (change : StagedChange). not (nat_eq change.holder c.args.holder)) _ (λ x b f' k. search rules) _ _ c.retain.ensures.filtered
