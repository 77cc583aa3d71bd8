use Rattle.std.proofs.Common.{◌≡◌, ℕ, List, Err, ap, subst}
use Rattle.std.proofs.lemmas.Result.{err_from_is_err_and}
use Rattle.uci_text.specs.Table.{HasWordsFault}
use Rattle.uci_text.proofs.table.command_of.Goals as goal

pub returns-in_err-keyword-clause-refused : goal.returns-in_err-keyword-clause-refused
returns-in_err-keyword-clause-refused c = λ error e.
    let p = err_from_is_err_and c.from_residual.result c.from_residual.ensures.1 in
    let same : c.in_err-keyword.field-0.0 ≡ error = cc (p.1, p.2, e) in
    let P : List (List ℕ) → Type 0 = λ z. HasWordsFault c.args.line.line z error in
    subst P c.as_slice.ensures (c.in_err-keyword.ensures.refused error (ap Err same))
