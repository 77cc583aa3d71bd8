use Rattle.std.proofs.Common.{◌≡◌, ◌∙◌, sym, ap, Err}
use Rattle.std.proofs.lemmas.Result.{err_from_is_err_and}
use Rattle.ubus_frames.specs.Found.{HasNumber}
use Rattle.ubus_frames.proofs.FieldLemmas.{behind_shorter, is_none, is_some}
use Rattle.ubus_frames.proofs.ReadLemmas.{numbers_more, numbers_end, number_refused}
use Rattle.ubus_frames.proofs.numbers.read_numbers.Goals as goal

pub returns-in_err-front-clause-refused : goal.returns-in_err-front-clause-refused
returns-in_err-front-clause-refused c = λ error e n.
    let p = err_from_is_err_and c.from_residual.result c.from_residual.ensures.1 in
    let same : c.in_err-front.field-0.0 ≡ error = cc (p.1, p.2, e) in
    number_refused _ _ _ _ _ _ c.loop-rest.invariant (is_some _ (sym c.is_empty.ensures ∙ c.loop-rest-test.true)) (c.in_err-front.ensures.refused error (ap Err same))

pub loop-rest-smaller : goal.loop-rest-smaller
loop-rest-smaller c =
    let h : HasNumber c.loop-rest.rest.now c.in_ok-front.front = c.in_ok-front.ensures.found in
    behind_shorter _ _ h.is.whole h.behind_is

pub loop-rest-preserved : goal.loop-rest-preserved
loop-rest-preserved c =
    let h : HasNumber c.loop-rest.rest.now c.in_ok-front.front = c.in_ok-front.ensures.found in
    numbers_more _ _ _ _ _ _ _ _ _ c.loop-rest.invariant h.is h.number_is h.size_is h.behind_is c.in_ok-push.ensures.ok

pub returns-clause-found : goal.returns-clause-found
returns-clause-found c = numbers_end _ _ _ _ _ c.loop-rest.invariant (is_none _ (sym c.is_empty.ensures ∙ c.loop-rest-test.false))
