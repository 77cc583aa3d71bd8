use Rattle.std.proofs.Common.{not, rules}
use Rattle.std.proofs.lemmas.Fn.{filter_same}
use Rattle.uci_staged.specs.Change.{is_of}
use Rattle.uci_staged.specs.declared.change.StagedChange.{StagedChange}
use Rattle.uci_staged.proofs.staging.drop_all.Goals as goal

pub returns : goal.returns
returns c = filter_same _ (λ (change : StagedChange). not (is_of c.args.holder c.args.file change)) _ (λ x b f' k. search rules) _ _ c.retain.ensures.filtered
