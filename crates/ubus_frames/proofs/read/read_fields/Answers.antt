use Rattle.std.proofs.Common.{◌≡◌, ◌∙◌, sym, ap, Err, Some}
use Rattle.std.proofs.lemmas.Result.{err_from_is_err_and}
use Rattle.ubus_frames.specs.Found.{HasParts}
use Rattle.ubus_frames.proofs.FieldLemmas.{behind_shorter, data_room, is_none, is_some}
use Rattle.ubus_frames.proofs.ReadLemmas.{changes_from, fields_more, fields_end, word_refused, value_refused}
use Rattle.ubus_frames.proofs.read.read_fields.Goals as goal

pub returns-in_err-parts-clause-refused : goal.returns-in_err-parts-clause-refused
returns-in_err-parts-clause-refused c = λ error e n.
    let p = err_from_is_err_and c.from_residual.result c.from_residual.ensures.1 in
    let same : c.in_err-parts.field-0.0 ≡ error = cc (p.1, p.2, e) in
    word_refused _ _ _ _ _ _ _ c.loop-rest.invariant (is_some _ (sym c.is_empty.ensures ∙ c.loop-rest-test.true)) (c.in_err-parts.ensures.refused ∙ ap Some same)

pub put_field-requires : goal.put_field-requires
put_field-requires c =
    let h : HasParts c.loop-rest.rest.now c.in_ok-parts.parts = c.in_ok-parts.ensures.found in
    data_room _ _ _ h.whole h.data_is c.loop-rest.invariant.room

pub returns-in_err-put_field-clause-refused : goal.returns-in_err-put_field-clause-refused
returns-in_err-put_field-clause-refused c = λ error e n.
    let h : HasParts c.loop-rest.rest.now c.in_ok-parts.parts = c.in_ok-parts.ensures.found in
    let p = err_from_is_err_and c.from_residual-in_err-put_field.result c.from_residual-in_err-put_field.ensures.1 in
    let same : c.in_err-put_field.field-0.0 ≡ error = cc (p.1, p.2, e) in
    value_refused _ _ _ _ _ _ _ _ _ _ c.loop-rest.invariant h.whole h.flag_is h.id_is h.data_is (c.in_err-put_field.ensures.refused error (ap Err same) n)

pub loop-rest-smaller : goal.loop-rest-smaller
loop-rest-smaller c =
    let h : HasParts c.loop-rest.rest.now c.in_ok-parts.parts = c.in_ok-parts.ensures.found in
    behind_shorter _ _ h.whole h.behind_is

pub loop-rest-preserved : goal.loop-rest-preserved
loop-rest-preserved c =
    let h : HasParts c.loop-rest.rest.now c.in_ok-parts.parts = c.in_ok-parts.ensures.found in
    fields_more _ _ _ _ _ _ _ _ _ c.loop-rest.invariant (changes_from _ _ _ _ _ _ h.whole h.flag_is h.id_is h.data_is c.in_ok-put_field.ensures.puts) h.size_is h.behind_is

pub returns-clause-found : goal.returns-clause-found
returns-clause-found c = fields_end _ _ _ _ _ _ c.loop-rest.invariant (is_none _ (sym c.is_empty.ensures ∙ c.loop-rest-test.false))
