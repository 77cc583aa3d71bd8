use Rattle.std.proofs.Common.{◌≡◌, ℕ, List, ◌∷◌, [], ◌++◌, ap, sym, ◌∙◌}
use Rattle.net_devices.specs.EachOnce.{has}
use Rattle.net_devices.proofs.KeyLemmas.{knows_one_more}
use Rattle.net_devices.proofs.each_once.TextsOnce.add.Goals as goal

pub invariant_of-self-then-added : goal.invariant_of-self-then-added
invariant_of-self-then-added c =
    let texts : List (List ℕ) = c.self.inside.texts.items in
    let same : c.in_ok-copy.copy ≡ c.in_ok-key.key = c.in_ok-copy.ensures ∙ sym c.in_ok-key.ensures in
    let now : c.push_reserved.new.self.items ≡ texts ++ c.in_ok-key.key ∷ [] = c.push_reserved.ensures.items ∙ (ap (λ (z : List (List ℕ)). z ++ c.in_ok-copy.copy ∷ []) c.reserve.ensures.items ∙ ap (λ (z : List ℕ). texts ++ z ∷ []) same) in
    λ q. knows_one_more c.self.inside.known c.insert.new.self texts c.in_ok-key.key c.self.invariant c.in_ok-added.ensures.updates.0 q ∙ ap (λ (z : List (List ℕ)). has z q) (sym now)
