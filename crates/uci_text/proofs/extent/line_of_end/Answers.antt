use Rattle.std.proofs.Common.{◌≡◌, Err, ap}
use Rattle.std.proofs.lemmas.Result.{err_from_is_err_and}
use Rattle.uci_text.proofs.extent.line_of_end.Goals as goal

pub returns-in_err-line_behind-clause-refused : goal.returns-in_err-line_behind-clause-refused
returns-in_err-line_behind-clause-refused c = λ error e.
    let p = err_from_is_err_and c.from_residual.result c.from_residual.ensures.1 in
    let same : c.in_err-line_behind.field-0.0 ≡ error = cc (p.1, p.2, e) in
    c.in_err-line_behind.ensures.refused error (ap Err same)
