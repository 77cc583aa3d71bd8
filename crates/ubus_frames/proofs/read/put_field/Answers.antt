use Rattle.std.proofs.Common.{◌≡◌, ◌∙◌, ap, sym, Err}
use Rattle.std.proofs.lemmas.Result.{err_from_is_err_and}
use Rattle.ubus_frames.specs.Fault.{known_fault}
use Rattle.ubus_frames.specs.Layout as layout
use Rattle.ubus_frames.proofs.read.put_field.Goals as goal

pub returns-in_err-value-in-Some-clause-refused : goal.returns-in_err-value-in-Some-clause-refused
returns-in_err-value-in-Some-clause-refused c = λ error e n.
    let p = err_from_is_err_and c.from_residual.result c.from_residual.ensures.1 in
    let same : c.in_err-value-in-Some.field-0.0 ≡ error = cc (p.1, p.2, e) in
    known_fault c.in-Some.kind (sym c.kind_of_parts.ensures ∙ c.in-Some.is) (c.in_err-value-in-Some.ensures.refused error (ap Err same) n)

pub returns-in_ok-value-in-Some-clause-puts : goal.returns-in_ok-value-in-Some-clause-puts
returns-in_ok-value-in-Some-clause-puts c =
    layout.known c.in-Some.kind c.in_ok-value-in-Some.value (sym c.kind_of_parts.ensures ∙ c.in-Some.is) c.in_ok-value-in-Some.ensures.found c.put.ensures
