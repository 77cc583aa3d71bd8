use Rattle.std.proofs.Common.{arith}
use Rattle.uci_text.proofs.PieceLemmas.{plain_takes}
use Rattle.uci_text.proofs.piece.read_piece.Goals as goal

pub returns-in_ok-extend_from_slice-in_default-mark-clause-found : goal.returns-in_ok-extend_from_slice-in_default-mark-clause-found
returns-in_ok-extend_from_slice-in_default-mark-clause-found c =
    plain_takes _ _ _ _ _ _ _ c.split.ensures c.in-Some.ensures.cases.0 c.requires (omega arith) (omega arith) (omega arith) c.in_ok-extend_from_slice-in_default-mark.ensures.items
