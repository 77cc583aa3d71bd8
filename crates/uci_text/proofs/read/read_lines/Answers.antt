use Rattle.std.proofs.Common.{◌≡◌, Err, ap, sym, ◌∙◌}
use Rattle.std.proofs.lemmas.Result.{err_from_is_err_and}
use Rattle.uci_text.proofs.ClassLemmas.{has_none}
use Rattle.uci_text.proofs.FaultLemmas.{reading_is_one}
use Rattle.uci_text.proofs.ReadLemmas.{read_none, read_more, read_all, read_refused, gap_refused}
use Rattle.uci_text.proofs.read.read_lines.Goals as goal

pub returns-in_err-rest-clause-refused : goal.returns-in_err-rest-clause-refused
returns-in_err-rest-clause-refused c = λ error e n.
    let p = err_from_is_err_and c.from_residual.result c.from_residual.ensures.1 in
    let same : c.in_err-rest.field-0.0 ≡ error = cc (p.1, p.2, e) in
    gap_refused _ _ (c.in_err-rest.ensures.refused error (ap Err same))

pub loop-rest-init : goal.loop-rest-init
loop-rest-init c = read_none _ _ _ _ c.in_ok-rest.ensures.found c.new-lines.ensures

pub returns-in_err-line-clause-refused : goal.returns-in_err-line-clause-refused
returns-in_err-line-clause-refused c = λ error e n.
    let p = err_from_is_err_and c.from_residual-in_err-line.result c.from_residual-in_err-line.ensures.1 in
    let same : c.in_err-line.field-0.0 ≡ error = cc (p.1, p.2, e) in
    read_refused _ _ _ _ _ c.loop-rest.invariant (c.in_err-line.ensures.refused error (ap Err same) n)

pub loop-rest-preserved : goal.loop-rest-preserved
loop-rest-preserved c = rw c.in_ok-push.ensures.ok (read_more _ _ _ _ _ _ _ c.loop-rest.invariant c.in_ok-line.ensures.found)

pub returns-clause-found : goal.returns-clause-found
returns-clause-found c = read_all _ _ _ _ c.loop-rest.invariant (has_none _ (sym c.is_empty.ensures ∙ c.loop-rest-test.false))

pub returns-clause-only : goal.returns-clause-only
returns-clause-only c = λ others s. reading_is_one _ _ _ (read_all _ _ _ _ c.loop-rest.invariant (has_none _ (sym c.is_empty.ensures ∙ c.loop-rest-test.false))) s
