use Rattle.std.proofs.Common.{◌≡◌, true, false}
use Rattle.uci_tree.proofs.PathLemmas.{not_a_package}
use Rattle.uci_tree.proofs.path_text.package_path.Goals as goal

pub returns-then-not-is_name-clause-none : goal.returns-then-not-is_name-clause-none
returns-then-not-is_name-clause-none c = λ e path s. not_a_package _ path c.requires (λ m. let t : false ≡ true = c.if-not-is_name.ensures.1 m in cc) s
