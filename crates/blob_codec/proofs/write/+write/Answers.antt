use Rattle.std.proofs.Common.{◌≡◌, ◌<◌, ◌-◌, ◌++◌, ◌∙◌, length, take, sym, ap, arith, rules, append_assoc, append-nil}
use Rattle.blob_codec.specs.Written.{body_of, size_of, written, written_attr}
use Rattle.blob_codec.proofs.WrittenLemmas.{ok_is, size_is, attr_is_written, word_keeps, kept_on, err_has, written_more, each_fits}
use Rattle.blob_codec.proofs.write.+write.Goals as goal

pub write_attr-set_word-requires-clause-size : goal.write_attr-set_word-requires-clause-size
write_attr-set_word-requires-clause-size t c =
    let s : c.len-start.result ≡ length c.args.out.now.items = search rules in
    let l : c.len.result ≡ length c.write_value.new.out.items = search rules in
    let e : c.len.result - c.len-start.result ≡ size_of c.args.attr.now.name (body_of c.args.attr.now.value).bytes =
    size_is _ _ _ _ _ c.len.result c.len-start.result c.in_ok-write_name.ensures.appends c.in_ok-write_value.ensures.appends s l ∙ ap (λ n. size_of n (body_of c.args.attr.now.value).bytes) c.as_bytes.ensures in
    let b : size_of c.args.attr.now.name (body_of c.args.attr.now.value).bytes < 16777216 = c.requires.fits.sized.size in
    omega arith

pub write_attr-pad-requires : goal.write_attr-pad-requires
write_attr-pad-requires t c =
    let s : c.len-start.result ≡ length c.args.out.now.items = search rules in
    let l : c.len.result ≡ length c.write_value.new.out.items = search rules in
    let e : c.len.result - c.len-start.result ≡ size_of c.args.attr.now.name (body_of c.args.attr.now.value).bytes =
    size_is _ _ _ _ _ c.len.result c.len-start.result c.in_ok-write_name.ensures.appends c.in_ok-write_value.ensures.appends s l ∙ ap (λ n. size_of n (body_of c.args.attr.now.value).bytes) c.as_bytes.ensures in
    let b : size_of c.args.attr.now.name (body_of c.args.attr.now.value).bytes < 16777216 = c.requires.fits.sized.size in
    omega arith

pub write_attr-returns-clause-appends : goal.write_attr-returns-clause-appends
write_attr-returns-clause-appends t c =
    let s : c.len-start.result ≡ length c.args.out.now.items = search rules in
    let l : c.len.result ≡ length c.write_value.new.out.items = search rules in
    ok_is _ _ _ _
    (attr_is_written _ _ _ _ _ _ (body_of c.args.attr.now.value) _ _ _ c.in_ok-write_name.ensures.appends c.in_ok-write_value.ensures.appends s
    (size_is _ _ _ _ _ c.len.result c.len-start.result c.in_ok-write_name.ensures.appends c.in_ok-write_value.ensures.appends s l) c.set_word.ensures c.as_bytes.ensures c.type_of.ensures.number)
    c.pad.ensures.appends

pub write_attr-returns-clause-kept : goal.write_attr-returns-clause-kept
write_attr-returns-clause-kept t c =
    let s : c.len-start.result ≡ length c.args.out.now.items = search rules in
    kept_on _ _ _ _ (word_keeps _ _ _ _ _ _ _ _ c.in_ok-write_name.ensures.appends c.in_ok-write_value.ensures.appends s c.set_word.ensures) c.pad.ensures.kept

pub write_attrs-loop-attr-init : goal.write_attrs-loop-attr-init
write_attrs-loop-attr-init t c = record { so_far = sym (append-nil c.args.out.now.items); each = each_fits c.args.attrs.now c.requires.fit }

pub write_attrs-returns-in_err-write_attr-clause-kept : goal.write_attrs-returns-in_err-write_attr-clause-kept
write_attrs-returns-in_err-write_attr-clause-kept t c =
    err_has _ _ _ _ _ c.loop-attr.invariant.so_far c.in_err-write_attr.ensures.kept

pub write_attrs-loop-attr-preserved : goal.write_attrs-loop-attr-preserved
write_attrs-loop-attr-preserved t c =
    let h : c.loop-attr.attr-index < length c.args.attrs.now = omega arith in record {
      so_far = c.in_ok-write_attr.ensures.appends ∙ (ap (λ xs. xs ++ written_attr c.attr-item.result) c.loop-attr.invariant.so_far
          ∙ (append_assoc c.args.out.now.items (written (take c.loop-attr.attr-index c.args.attrs.now)) (written_attr c.attr-item.result)
          ∙ ap (λ ys. c.args.out.now.items ++ ys) (sym (written_more c.args.attrs.now c.loop-attr.attr-index c.attr-item.result h c.attr-item.is))));
      each = c.loop-attr.invariant.each;
    }
