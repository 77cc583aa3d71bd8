use Rattle.std.proofs.Common.{◌≡◌, Err, ap}
use Rattle.std.proofs.lemmas.Result.{err_from_is_err_and}
use Rattle.uci_text.proofs.ExtentLemmas.{refuses_gap}
use Rattle.uci_text.proofs.extent.read_gap.Goals as goal

pub returns-in_err-number-clause-refused : goal.returns-in_err-number-clause-refused
returns-in_err-number-clause-refused c = λ error e.
    let p = err_from_is_err_and c.from_residual.result c.from_residual.ensures.1 in
    let same : c.in_err-number.field-0.0 ≡ error = cc (p.1, p.2, e) in
    let g = c.behind_gap-behind.ensures in
    refuses_gap _ _ _ _ g (c.before-2.ensures g.gap g.whole) (c.in_err-number.ensures.refused error (ap Err same))
