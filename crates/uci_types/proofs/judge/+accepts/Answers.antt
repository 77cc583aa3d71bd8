use Rattle.std.proofs.Common.{◌&&◌, ◌∙◌, Bool, ap, sym}
use Rattle.uci_types.specs.Values.{in_each_word}
use Rattle.uci_types.proofs.WordLemmas.{words_cut, words_last}
use Rattle.uci_types.proofs.judge.+accepts.Goals as goal

pub each_word_accepted-returns-then-not-word_accepted : goal.each_word_accepted-returns-then-not-word_accepted
each_word_accepted-returns-then-not-word_accepted t c =
    let cut = words_cut c.args.datatype.now c.loop-word.rest.now c.in-Some.word.now c.in-Some.behind.now c.in-Some.ensures in
    ap (λ (b : Bool). b && in_each_word c.args.datatype.now c.in-Some.behind.now) (sym c.if-not-word_accepted.true ∙ c.word_accepted.ensures) ∙ (sym cut ∙ c.loop-word.invariant)

pub each_word_accepted-loop-word-preserved : goal.each_word_accepted-loop-word-preserved
each_word_accepted-loop-word-preserved t c =
    let cut = words_cut c.args.datatype.now c.loop-word.rest.now c.in-Some.word.now c.in-Some.behind.now c.in-Some.ensures in
    ap (λ (b : Bool). b && in_each_word c.args.datatype.now c.in-Some.behind.now) (sym c.if-not-word_accepted.false ∙ c.word_accepted.ensures) ∙ (sym cut ∙ c.loop-word.invariant)

pub each_word_accepted-returns : goal.each_word_accepted-returns
each_word_accepted-returns t c =
    c.word_accepted-2.ensures ∙ (sym (words_last c.args.datatype.now c.loop-word.rest.now c.in_default.ensures) ∙ c.loop-word.invariant)
