use Rattle.std.proofs.Common.{◌≡◌, true, false, refl}
use Rattle.uci_tree.proofs.PathLemmas.{no_option, other_option}
use Rattle.uci_tree.proofs.split.cut_option.Goals as goal

pub returns-in_default : goal.returns-in_default
returns-in_default c = (refl, λ before name e n. no_option _ before name c.in_default.ensures e n)

pub returns-then-not-is_name : goal.returns-then-not-is_name
returns-then-not-is_name c = (refl, λ before name e n. other_option _ _ _ before name c.in-Some.ensures (λ m. let t : false ≡ true = c.if-not-is_name.ensures.1 m in cc) e n)
