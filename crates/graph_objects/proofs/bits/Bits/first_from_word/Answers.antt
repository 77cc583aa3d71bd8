use Rattle.std.proofs.Common.{arith, ◌*◌, ◌+◌, ℕ, List, w64, subst, sym, ◌∙◌}
use Rattle.std.specs.Int.{trailing_zeros}
use Rattle.std.proofs.lemmas.List.{get_or_read}
use Rattle.graph_objects.specs.Bits.{NoneBetween, NoneFrom}
use Rattle.graph_objects.proofs.BitLemmas.{more_words, all_words, lowest_bit}
use Rattle.graph_objects.proofs.bits.Bits.first_from_word.Goals as goal

pub loop-index-init : goal.loop-index-init
loop-index-init c n above below = absurd (omega (arith, above, below))

pub loop-index-preserved : goal.loop-index-preserved
loop-index-preserved c =
    let words = c.self.inside.words.items in
    let index = c.loop-index.index in
    let is = get_or_read words index c.index-word.result.now (omega arith) c.index-word.ensures 0 in
    more_words words (64 * c.args.start) index c.loop-index.invariant (sym is ∙ omega (arith, c.if-word-ne0.false))

pub returns-then-word-ne0-clause-least : goal.returns-then-word-ne0-clause-least
returns-then-word-ne0-clause-least c =
    let words = c.self.inside.words.items in
    let index = c.loop-index.index in
    let word = c.index-word.result.now in
    let is = get_or_read words index word (omega arith) c.index-word.ensures 0 in
    subst (λ (ws : List ℕ). NoneBetween ws (64 * c.args.start) (index * 64 + trailing_zeros w64 word)) c.self.view_is
    (lowest_bit words (64 * c.args.start) index word c.loop-index.invariant is (omega (arith, c.if-word-ne0.true)) (omega arith))

pub returns-clause-none : goal.returns-clause-none
returns-clause-none c =
    let words = c.self.inside.words.items in
    subst (λ (ws : List ℕ). NoneFrom ws (64 * c.args.start)) c.self.view_is (all_words words (64 * c.args.start) c.loop-index.index c.loop-index.invariant (omega (arith, c.loop-index-test.false)))
