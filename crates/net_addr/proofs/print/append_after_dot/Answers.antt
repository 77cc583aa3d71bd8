use Rattle.std.proofs.Common.{[], ◌∷◌, decimal}
use Rattle.net_addr.proofs.AppendedLemmas.{Appends-append}
use Rattle.net_addr.proofs.print.append_after_dot.Goals as goal

pub returns-clause-text : goal.returns-clause-text
returns-clause-text c = Appends-append _ _ _ (46 ∷ []) (decimal c.args.number) _ _ _ c.append-end.ensures c.append_decimal.ensures.text
