use Rattle.std.proofs.Common.{List, ℕ, ◌++◌, ◌∙◌, ap}
use Rattle.net_rows.specs.Words as spec
use Rattle.net_rows.proofs.WordLemmas.{word_and_rest, last_word, on_ok_then}
use Rattle.net_rows.proofs.words.push_words.Goals as goal

pub loop-word-preserved : goal.loop-word-preserved
loop-word-preserved c = ap (λ (z : List (List ℕ)). z ++ spec.words c.in-Some.behind.now) c.in_ok-push_word.ensures
    ∙ (word_and_rest c.loop-word.words c.loop-word.rest.now c.in-Some.word.now c.in-Some.behind.now c.in-Some.ensures ∙ c.loop-word.invariant)

pub returns : goal.returns
returns c = on_ok_then c.push_word-2.result (λ added. added ∙ (last_word c.loop-word.words c.loop-word.rest.now c.in_default.ensures ∙ c.loop-word.invariant)) c.push_word-2.ensures
