use Rattle.std.proofs.Common.{string_bytes, ap, ◌∙◌}
use Rattle.std.specs.Prelude.{bytes_eq, codes}
use Rattle.plane_main.proofs.WordLemmas.{one_word, text_of_test}
use Rattle.plane_main.proofs.page.Page.read.Goals as goal

pub returns-then-eq-clause-found : goal.returns-then-eq-clause-found
returns-then-eq-clause-found c =
    one_word string_bytes c.args.words.now c.word-item.result (codes "--help") c.in-len1.len_at_least c.in-len1.len_below c.word-item.is
    (text_of_test c.as_bytes.result.now (string_bytes c.word-item.result) (codes "--help") c.eq.result (c.eq.ensures ∙ ap (bytes_eq c.as_bytes.result.now) c.as_slice.ensures) c.if-eq.true c.as_bytes.ensures.value)

pub returns-then-eq-2-clause-found : goal.returns-then-eq-2-clause-found
returns-then-eq-2-clause-found c =
    one_word string_bytes c.args.words.now c.word-item.result (codes "--version") c.in-len1.len_at_least c.in-len1.len_below c.word-item.is
    (text_of_test c.as_bytes-2.result.now (string_bytes c.word-item.result) (codes "--version") c.eq-2.result (c.eq-2.ensures ∙ ap (bytes_eq c.as_bytes-2.result.now) c.as_slice-2.ensures) c.if-eq-2.true c.as_bytes-2.ensures.value)
