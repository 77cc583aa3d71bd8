use Rattle.std.proofs.Common.{arith, ◌≡◌, ◌<◌, ◌+◌, ◌*◌, ℕ, List, length, w64, subst, ap, ◌∙◌}
use Rattle.std.specs.Int.{trailing_zeros}
use Rattle.std.proofs.lemmas.List.{get_or_read}
use Rattle.use_counts.specs.Marked.{mark}
use Rattle.use_counts.proofs.MarkLemmas.{lowest, none_below, tail_fits}
use Rattle.use_counts.proofs.marks.Marks.first.Goals as goal

pub overflow_mul-result : goal.overflow_mul-result
overflow_mul-result c = omega (arith, c.loop-self-test.true, c.loop-self.invariant.narrow.within, c.loop-self.invariant.narrow.small)

pub overflow_add-result : goal.overflow_add-result
overflow_add-result c = omega (
  arith,
  tail_fits c.loop-self.self-inside.words.items c.loop-self.self-inside.low c.index-word.result.now c.loop-self.self-inside.high c.loop-self.invariant.narrow c.loop-self-test.true
      c.loop-self.invariant.narrow.small (omega (arith, c.if-word-ne0.true)) (omega arith),
)

pub returns-then-word-ne0-clause-found : goal.returns-then-word-ne0-clause-found
returns-then-word-ne0-clause-found c =
    let words = c.loop-self.self-inside.words in
    let low = c.loop-self.self-inside.low in
    let word = c.index-word.result.now in
    let within : low < length words.items = omega (arith, c.loop-self-test.true, c.loop-self.invariant.narrow.within) in
    let is = get_or_read words.items low word within c.index-word.ensures 0 in
    subst (λ (ws : List ℕ). mark ws (low * 64 + trailing_zeros w64 word) ≡ 1) (ap (λ w. w.items) c.loop-self.invariant.same ∙ c.self.view_is) (lowest words.items low word is (omega (arith, c.if-word-ne0.true)) (omega arith))

pub returns-then-word-ne0-clause-least : goal.returns-then-word-ne0-clause-least
returns-then-word-ne0-clause-least c m before =
    let words = c.loop-self.self-inside.words in
    let low = c.loop-self.self-inside.low in
    let word = c.index-word.result.now in
    let within : low < length words.items = omega (arith, c.loop-self-test.true, c.loop-self.invariant.narrow.within) in
    let is = get_or_read words.items low word within c.index-word.ensures 0 in
    subst (λ (ws : List ℕ). mark ws m ≡ 0) (ap (λ w. w.items) c.loop-self.invariant.same ∙ c.self.view_is)
    (none_below words.items low word c.loop-self.self-inside.high m c.loop-self.invariant.narrow is (omega (arith, c.if-word-ne0.true)) (omega arith) before)
