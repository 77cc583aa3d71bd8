use Rattle.std.proofs.Common.{◌≡◌, ◌≤◌, ◌-◌, suc, arith, rules, sym, ◌∙◌, ap, Err, Some}
use Rattle.std.proofs.lemmas.Result.{err_from_is_err_and}
use Rattle.blob_codec.specs.Attribute.{type_in, value_place}
use Rattle.blob_codec.specs.Found.{of_inner, of_nested, HasParts}
use Rattle.blob_codec.specs.Fault.{is_nested}
use Rattle.blob_codec.proofs.FieldLemmas.{value_within, value_room, behind_shorter}
use Rattle.blob_codec.proofs.ReadLemmas.{ends, refused_in_front, value_refused, more, leaf_found, array_found, table_found, is_none, is_some}
use Rattle.blob_codec.proofs.read.+read.Goals as goal

pub read_attrs-returns-in_err-parts-clause-refused : goal.read_attrs-returns-in_err-parts-clause-refused
read_attrs-returns-in_err-parts-clause-refused t c = λ error e n.
    let p = err_from_is_err_and c.from_residual.result c.from_residual.ensures.1 in
    let same : c.in_err-parts.field-0.0 ≡ error = cc (p.1, p.2, e) in
    refused_in_front _ _ _ _ _ _ _ c.loop-rest.invariant (is_some _ (sym c.is_empty.ensures ∙ c.loop-rest-test.true)) (c.in_err-parts.ensures.refused ∙ ap Some same)

pub read_attrs-overflow_add-inner : goal.read_attrs-overflow_add-inner
read_attrs-overflow_add-inner t c =
    let h : HasParts c.loop-rest.rest.now c.in_ok-parts.parts = c.in_ok-parts.ensures.found in
    let v : c.in_ok-parts.parts.value_place ≡ value_place c.loop-rest.rest.now = h.value_place_is in
    omega (arith, value_within c.loop-rest.rest.now h.whole, c.loop-rest.invariant.room)

pub read_attrs-read_value-requires : goal.read_attrs-read_value-requires
read_attrs-read_value-requires t c =
    let h : HasParts c.loop-rest.rest.now c.in_ok-parts.parts = c.in_ok-parts.ensures.found in
    let k : c.in_ok-parts.parts.kind ≡ type_in c.loop-rest.rest.now = h.kind_is in
    let m : type_in c.loop-rest.rest.now ≤ 7 = h.whole.type in
    (search rules, (omega arith, value_room _ _ _ _ h.whole h.value_is h.value_place_is c.loop-rest.invariant.room))

pub read_attrs-returns-in_err-value-clause-refused : goal.read_attrs-returns-in_err-value-clause-refused
read_attrs-returns-in_err-value-clause-refused t c = λ error e n.
    let h : HasParts c.loop-rest.rest.now c.in_ok-parts.parts = c.in_ok-parts.ensures.found in
    let p = err_from_is_err_and c.from_residual-in_err-value.result c.from_residual-in_err-value.ensures.1 in
    let same : c.in_err-value.field-0.0 ≡ error = cc (p.1, p.2, e) in
    value_refused _ _ _ _ _ _ _ _ _ _ c.loop-rest.invariant h.whole h.kind_is h.value_is h.value_place_is (c.in_err-value.ensures.refused error (ap Err same) n)

pub read_attrs-loop-rest-smaller : goal.read_attrs-loop-rest-smaller
read_attrs-loop-rest-smaller t c =
    let h : HasParts c.loop-rest.rest.now c.in_ok-parts.parts = c.in_ok-parts.ensures.found in
    behind_shorter _ _ h.whole h.behind_is

pub read_attrs-loop-rest-preserved : goal.read_attrs-loop-rest-preserved
read_attrs-loop-rest-preserved t c =
    let h : HasParts c.loop-rest.rest.now c.in_ok-parts.parts = c.in_ok-parts.ensures.found in
    more _ _ _ _ _ _ _ _ _ _ _ _ _ c.loop-rest.invariant h.whole h.kind_is h.value_is (c.in_ok-name.ensures ∙ h.name_is) h.size_is h.behind_is
    c.in_ok-value.ensures.found c.in_ok-push.ensures.ok

pub read_attrs-returns-clause-found : goal.read_attrs-returns-clause-found
read_attrs-returns-clause-found t c = ends _ _ _ _ _ _ c.loop-rest.invariant (is_none _ (sym c.is_empty.ensures ∙ c.loop-rest-test.false))

pub read_inner-returns-clause-refused : goal.read_inner-returns-clause-refused
read_inner-returns-clause-refused t c = λ error e n.
    let z : c.args.levels ≡ 0 → ⊥ = c.if-levels-eq0.false in
    let l : c.args.levels ≡ suc (c.args.levels - 1) = omega arith in
    of_inner (c.args.levels - 1) l (c.read_attrs.ensures.refused error e n)

pub read_value-returns-in_ok-read_inner-in-1-clause-found : goal.read_value-returns-in_ok-read_inner-in-1-clause-found
read_value-returns-in_ok-read_inner-in-1-clause-found t c = array_found _ _ _ _ c.in-1.is c.in_ok-read_inner-in-1.ensures.found

pub read_value-returns-in_ok-read_inner-in-2-clause-found : goal.read_value-returns-in_ok-read_inner-in-2-clause-found
read_value-returns-in_ok-read_inner-in-2-clause-found t c = table_found _ _ _ _ c.in-2.is c.in_ok-read_inner-in-2.ensures.found

pub read_value-returns-in_err-read_inner-in-1-clause-refused : goal.read_value-returns-in_err-read_inner-in-1-clause-refused
read_value-returns-in_err-read_inner-in-1-clause-refused t c = λ error e n.
    let p = err_from_is_err_and c.from_residual.result c.from_residual.ensures.1 in
    let same : c.in_err-read_inner-in-1.field-0.0 ≡ error = cc (p.1, p.2, e) in
    of_nested (ap is_nested c.in-1.is) (c.in_err-read_inner-in-1.ensures.refused error (ap Err same) n)

pub read_value-returns-in_err-read_inner-in-2-clause-refused : goal.read_value-returns-in_err-read_inner-in-2-clause-refused
read_value-returns-in_err-read_inner-in-2-clause-refused t c = λ error e n.
    let p = err_from_is_err_and c.from_residual-in_err-read_inner-in-2.result c.from_residual-in_err-read_inner-in-2.ensures.1 in
    let same : c.in_err-read_inner-in-2.field-0.0 ≡ error = cc (p.1, p.2, e) in
    of_nested (ap is_nested c.in-2.is) (c.in_err-read_inner-in-2.ensures.refused error (ap Err same) n)

pub read_value-returns-in_default-clause-found : goal.read_value-returns-in_default-clause-found
read_value-returns-in_default-clause-found t c = leaf_found _ _ _ _ c.read_leaf.ensures.found
