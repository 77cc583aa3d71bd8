use Rattle.std.proofs.Common.{Some, rules}
use Rattle.std.proofs.lemmas.Fn.{filter_same}
use Rattle.uci_staged.specs.Change.{stays}
use Rattle.uci_staged.proofs.staging.revert.Goals as goal

pub returns : goal.returns
returns c = filter_same _ (stays c.args.holder c.args.file (Some c.args.path.now)) _ (λ x b f' k. search rules) _ _ c.retain.ensures.filtered
