use Rattle.std.proofs.Common.{arith}
use Rattle.std.proofs.lemmas.Grind.{common_steps}
use Rattle.uci_tree.proofs.HexLemmas.{padded_two, padded_four}
use Rattle.uci_tree.proofs.anonymous.anonymous_name.Goals as goal

pub returns : goal.returns
returns c = grind (arith, common_steps, padded_two, padded_four)
