use Rattle.std.proofs.Common.{◌≡◌, ap, refl, Err}
use Rattle.std.proofs.lemmas.Result.{err_from_is_err_and}
use Rattle.ubus_frames.specs.Fault as fault
use Rattle.ubus_frames.specs.Value as value
use Rattle.ubus_frames.proofs.read.read_value.Goals as goal

pub returns-in_err-read_attrs-in-AttrList-clause-refused : goal.returns-in_err-read_attrs-in-AttrList-clause-refused
returns-in_err-read_attrs-in-AttrList-clause-refused c = λ error e n.
    let p = err_from_is_err_and c.from_residual-in_err-read_attrs-in-AttrList.result c.from_residual-in_err-read_attrs-in-AttrList.ensures.1 in
    let same : c.in_err-read_attrs-in-AttrList.field-0.0 ≡ error = cc (p.1, p.2, e) in
    fault.attrs c.in-AttrList.is (c.in_err-read_attrs-in-AttrList.ensures.refused error (ap Err same) n)

pub returns-in_ok-read_attrs-in-AttrList-clause-found : goal.returns-in_ok-read_attrs-in-AttrList-clause-found
returns-in_ok-read_attrs-in-AttrList-clause-found c = value.attrs _ c.in-AttrList.is c.in_ok-read_attrs-in-AttrList.ensures.found refl

pub returns-in_ok-read_numbers-in-NumberList-clause-found : goal.returns-in_ok-read_numbers-in-NumberList-clause-found
returns-in_ok-read_numbers-in-NumberList-clause-found c = value.numbers _ c.in-NumberList.is c.in_ok-read_numbers-in-NumberList.ensures.found refl
