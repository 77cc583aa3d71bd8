use Rattle.std.proofs.Common.{◌≡◌, ◌+◌, ◌<◌, ◌≤◌, ◌∙◌, min, None, FitsSigned, ap, subst, length, arith, rules}
use Rattle.std.specs.Prelude.{position}
use Rattle.std.specs.Int.{w8, w16, w32, w64}
use Rattle.std.proofs.lemmas.List.{take_all}
use Rattle.lanes_scan.specs.ByteTest.{is_nul}
use Rattle.blob_codec.specs.Limits.{HasNoNul}
use Rattle.blob_codec.specs.Written.{body_of, size_of, written}
use Rattle.blob_codec.specs.Attribute.{padded}
use Rattle.blob_codec.proofs.FieldLemmas.{padded_most}
use Rattle.blob_codec.proofs.SizeLemmas.{item_fits, front_fits, none_fit, size_more, size_sum, nothing_at, int64_at, int32_at, int16_at, int8_at, string_at, array_at, table_at}
use Rattle.blob_codec.proofs.size.+size.Goals as goal

pub attr_size-overflow_add-padded_size : goal.attr_size-overflow_add-padded_size
attr_size-overflow_add-padded_size t c = omega (arith, c.padded_size.ensures, padded_most (length c.as_bytes-name.result.now + 3))

pub attr_size-returns-then-size-lt16777216 : goal.attr_size-returns-then-size-lt16777216
attr_size-returns-then-size-lt16777216 t c =
    let name = c.args.attr.now.name in
    let bytes = (body_of c.args.attr.now.value).bytes in
    let same : c.as_bytes-name.result.now ≡ name = c.as_bytes-name.ensures in
    let l : length c.as_bytes-name.result.now ≡ length name = ap length same in
    let z : 4 + c.padded_size.result + length bytes ≡ size_of name bytes = size_sum name bytes (length c.as_bytes-name.result.now) c.padded_size.result l c.padded_size.ensures in
    let v : c.in-Some.value ≡ min (length bytes) 18446744073709551615 = c.in-Some.ensures.1 in
    let p : position is_nul c.as_bytes-name.result.now ≡ None = search rules in (
      record { sized = record { name_plain = subst HasNoNul same p; name_length = omega arith; size = omega arith }; fits = c.in-Some.ensures.0 },
      c.if-size-lt16777216.true,
      omega arith,
    )

pub attr_size-returns-else-size-lt16777216 : goal.attr_size-returns-else-size-lt16777216
attr_size-returns-else-size-lt16777216 t c = λ f.
    let name = c.args.attr.now.name in
    let bytes = (body_of c.args.attr.now.value).bytes in
    let l : length c.as_bytes-name.result.now ≡ length name = ap length c.as_bytes-name.ensures in
    let z : 4 + c.padded_size.result + length bytes ≡ size_of name bytes = size_sum name bytes (length c.as_bytes-name.result.now) c.padded_size.result l c.padded_size.ensures in
    let v : c.in-Some.value ≡ min (length bytes) 18446744073709551615 = c.in-Some.ensures.1 in
    let s : size_of name bytes < 16777216 = f.sized.size in
    omega arith

pub attrs_size-returns-in_default : goal.attrs_size-returns-in_default
attrs_size-returns-in_default t c = λ f.
    let h : c.loop-attr.attr-index < length c.args.attrs.now = omega arith in
    c.in_default.ensures (item_fits c.args.levels c.args.attrs.now c.loop-attr.attr-index c.attr-item.result h c.attr-item.is f)

pub value_size-returns-in-Unspec : goal.value_size-returns-in-Unspec
value_size-returns-in-Unspec t c = nothing_at _ _ c.in-Unspec.is

pub value_size-returns-in-Array : goal.value_size-returns-in-Array
value_size-returns-in-Array t c = array_at _ _ _ _ _ c.in-Array.is c.as_slice.ensures c.inner_size.ensures

pub value_size-returns-in-Table : goal.value_size-returns-in-Table
value_size-returns-in-Table t c = table_at _ _ _ _ _ c.in-Table.is c.as_slice-in-Table.ensures c.inner_size-in-Table.ensures

pub value_size-returns-in-Str : goal.value_size-returns-in-Str
value_size-returns-in-Str t c = string_at _ _ _ _ _ c.in-Str.is c.as_bytes.ensures c.string_size.ensures

pub value_size-returns-in-I64 : goal.value_size-returns-in-I64
value_size-returns-in-I64 t c =
    let f : FitsSigned w64 c.copied.result = search rules in
    int64_at _ _ _ (subst (FitsSigned w64) c.copied.ensures f) c.in-I64.is

pub value_size-returns-in-I32 : goal.value_size-returns-in-I32
value_size-returns-in-I32 t c =
    let f : FitsSigned w32 c.copied-in-I32.result = search rules in
    int32_at _ _ _ (subst (FitsSigned w32) c.copied-in-I32.ensures f) c.in-I32.is

pub value_size-returns-in-I16 : goal.value_size-returns-in-I16
value_size-returns-in-I16 t c =
    let f : FitsSigned w16 c.copied-in-I16.result = search rules in
    int16_at _ _ _ (subst (FitsSigned w16) c.copied-in-I16.ensures f) c.in-I16.is

pub value_size-returns-in-I8 : goal.value_size-returns-in-I8
value_size-returns-in-I8 t c =
    let f : FitsSigned w8 c.copied-in-I8.result = search rules in
    int8_at _ _ _ (subst (FitsSigned w8) c.copied-in-I8.ensures f) c.in-I8.is

pub attrs_size-loop-attr-preserved : goal.attrs_size-loop-attr-preserved
attrs_size-loop-attr-preserved t c =
    let h : c.loop-attr.attr-index < length c.args.attrs.now = omega arith in record {
      size = size_more c.args.attrs.now c.loop-attr.attr-index c.attr-item.result c.loop-attr.total c.padded_size.result _ h c.attr-item.is c.loop-attr.invariant.size
          (c.padded_size.ensures ∙ ap padded c.in-Some.ensures.2) (search rules);
      front = λ r. c.loop-attr.invariant.front (front_fits c.args.levels c.args.attrs.now c.loop-attr.attr-index c.attr-item.result h c.attr-item.is c.in-Some.ensures.0 r);
    }

pub attrs_size-returns : goal.attrs_size-returns
attrs_size-returns t c =
    let h : length c.args.attrs.now ≤ c.loop-attr.attr-index = omega arith in (
      c.loop-attr.invariant.front (none_fit c.args.levels c.args.attrs.now c.loop-attr.attr-index h),
      c.loop-attr.invariant.size ∙ ap (λ attrs. min (length (written attrs)) 18446744073709551615) (take_all c.loop-attr.attr-index c.args.attrs.now h),
    )
