use Rattle.uci_text.proofs.PieceLemmas.{escaped_takes}
use Rattle.uci_text.proofs.piece.read_escaped.Goals as goal

pub returns-clause-found : goal.returns-clause-found
returns-clause-found c = escaped_takes _ _ _ _ _ c.in-Some.ensures.cases.0 c.in_ok-push_escaped.ensures
