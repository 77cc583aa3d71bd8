use Rattle.std.proofs.Common.{ℕ, arith, length, sym, ◌∙◌, ◌≡◌, ◌<◌, List, [], Bool, true, false, not, nat_eq, get_or, refl}
use Rattle.std.specs.Cmp.Lexicographic.{pointwise, bytes_decides}
use Rattle.std.proofs.lemmas.List.{get_or_default}
use Rattle.plane_disk.specs.Names.{name_at}
use Rattle.plane_disk.proofs.names.are_disk_names.Goals as goal

is_true : (b : Bool) → false ≡ not b → b ≡ true
is_true true h = refl
is_true false h = absurd (cc)

same_text : (xs ys : List ℕ) → false ≡ not (pointwise nat_eq xs ys) → xs ≡ ys
same_text xs ys h = (bytes_decides xs ys).0 (is_true (pointwise nat_eq xs ys) h)

-- the name of a file that was read from the list
name_read : (names : List (List ℕ)) (k : ℕ) (name : List ℕ) → k < length names → name ≡ get_or names k name → name_at names k ≡ name
name_read names k name within is = sym (is ∙ get_or_default names k name [] within)

pub returns : goal.returns
returns c =
    let names = c.args.names.now in (
      λ _. record {
        some = omega (arith, c.if-names-lt2.false);
        gates = name_read names 0 c.index-names-0.result (omega (arith, c.if-names-lt2.false)) c.index-names-0.is ∙ (sym c.as_bytes.ensures ∙ (same_text c.as_bytes.result.now c.as_slice.result.now c.if-ne.ensures ∙ c.as_slice.ensures));
        snapshot = name_read names 1 c.index-names-1.result (omega (arith, c.if-names-lt2.false)) c.index-names-1.is
            ∙ (sym c.as_bytes-2.ensures ∙ (same_text c.as_bytes-2.result.now c.as_slice-2.result.now c.if-ne-2.ensures ∙ c.as_slice-2.ensures));
        packages = λ file low within. c.loop-file.invariant file (omega (arith, within, c.loop-file-test.false)) low;
      },
      λ _. refl,
    )
