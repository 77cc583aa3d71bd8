use Rattle.std.proofs.Common.{arith, ◌≡◌, ◌*◌, ◌/◌, ◌%◌, ◌+◌, ◌^◌, ℕ, List, w64, refl, subst}
use Rattle.std.specs.Int.{trailing_zeros}
use Rattle.std.proofs.lemmas.List.{get_or_read}
use Rattle.graph_objects.specs.Bits.{NoneBetween}
use Rattle.graph_objects.proofs.BitLemmas.{least_in_rest, none_in_rest, some_joined, none_joined}
use Rattle.graph_objects.proofs.bits.Bits.first_from.Goals as goal

pub returns-then-rest-ne0-clause-least : goal.returns-then-rest-ne0-clause-least
returns-then-rest-ne0-clause-least c =
    let words = c.self.inside.words.items in
    let start = c.args.start in
    let word = c.index.result.now in
    let is = get_or_read words (start / 64) word (omega arith) c.index.ensures 0 in
    subst (λ (ws : List ℕ). NoneBetween ws start (start + trailing_zeros w64 (word / 2 ^ (start % 64)))) c.self.view_is
    (least_in_rest words start word (word / 2 ^ (start % 64)) is refl (omega (arith, c.if-rest-ne0.true)) (omega arith))

pub returns-clause-least : goal.returns-clause-least
returns-clause-least c =
    let words = c.self.inside.words.items in
    let start = c.args.start in
    let word = c.index.result.now in
    let is = get_or_read words (start / 64) word (omega arith) c.index.ensures 0 in
    let none : word / 2 ^ (start % 64) ≡ 0 = omega (arith, c.if-rest-ne0.false) in
    some_joined c.args.self.now start (64 * (start / 64 + 1))
    (subst (λ (ws : List ℕ). NoneBetween ws start (64 * (start / 64 + 1))) c.self.view_is (none_in_rest words start word (word / 2 ^ (start % 64)) is refl none))
    c.first_from_word.result c.first_from_word.ensures.least

pub returns-clause-none : goal.returns-clause-none
returns-clause-none c =
    let words = c.self.inside.words.items in
    let start = c.args.start in
    let word = c.index.result.now in
    let is = get_or_read words (start / 64) word (omega arith) c.index.ensures 0 in
    let none : word / 2 ^ (start % 64) ≡ 0 = omega (arith, c.if-rest-ne0.false) in
    none_joined c.args.self.now start (64 * (start / 64 + 1))
    (subst (λ (ws : List ℕ). NoneBetween ws start (64 * (start / 64 + 1))) c.self.view_is (none_in_rest words start word (word / 2 ^ (start % 64)) is refl none))
    c.first_from_word.result c.first_from_word.ensures.none
