use Rattle.std.proofs.Common.{◌≡◌, Err}
use Rattle.uci_tree.specs.declared.path_text.PathError.TheVariants.{NoPath}
use Rattle.uci_tree.proofs.PathLemmas.{one_path}
use Rattle.uci_tree.proofs.path_text.read_path.Goals as goal

pub returns-in-Ok-clause-only : goal.returns-in-Ok-clause-only
returns-in-Ok-clause-only c = λ other s. one_path _ c.in-Ok.path other c.in-Ok.ensures.found s

pub returns-in-Err-NoPath-clause-none : goal.returns-in-Err-NoPath-clause-none
returns-in-Err-NoPath-clause-none c = λ path s. let e : c.path_of.result ≡ Err NoPath = cc in c.path_of.ensures.none e path s
