use Rattle.std.proofs.Common.{◌≡◌, ◌∷◌, Some, map, string_bytes, ap, sym, ◌∙◌}
use Rattle.plane_main.specs.RunWords.{with_option}
use Rattle.plane_main.proofs.RunWordLemmas.{one_read}
use Rattle.plane_main.proofs.run_words.read_options.Goals as goal

pub loop-word-preserved : goal.loop-word-preserved
loop-word-preserved c =
    let given = c.loop-word.given in
    let word = string_bytes c.in-Some.word.now in
    let value = string_bytes c.in-Some-split_first.value.now in
    let rest = map string_bytes c.in-Some-split_first.behind.now in
    let is : map string_bytes c.loop-word.rest.now ≡ word ∷ value ∷ rest =
    ap (map string_bytes) c.in-Some.ensures.cases.0
    ∙ ap (λ ws. word ∷ map string_bytes ws) c.in-Some-split_first.ensures.cases.0 in
    let with : with_option given word value ≡ Some c.in-Some-2.next =
    sym (c.in_ok-next.ensures ∙ ap (λ w. with_option given w c.as_bytes-in-Some.result.now) c.as_bytes.ensures.value
    ∙ ap (with_option given word) c.as_bytes-in-Some.ensures.value)
    ∙ c.in-Some-2.is in
    one_read given c.in-Some-2.next (map string_bytes c.loop-word.rest.now) word value rest is with
    ∙ c.loop-word.invariant
