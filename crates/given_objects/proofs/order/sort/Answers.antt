use Rattle.std.proofs.Common.{rules}
use Rattle.std.proofs.lemmas.List.Sorted.{answers_always}
use Rattle.given_objects.proofs.OrderedLemmas.{before, ranked, comes_down}
use Rattle.given_objects.proofs.order.sort.Goals as goal

pub returns-clause-down : goal.returns-clause-down
returns-clause-down c = comes_down c.sort_unstable_by.new.self.items (c.sort_unstable_by.ensures.sorted before ranked (answers_always _ _ _ (λ f a r g k. search rules)))
