-- Random words that are used up.
use Rattle.std.proofs.Common.{ℕ, ◌≡◌, ◌+◌, List, [], ◌∷◌, ◌++◌, Some, None, refl, subst, ◌∙◌}
use Rattle.plane_outside.specs.Supply.{Supply, AreNext, Uses}

pub uses_none : (supply : Supply) → Uses supply [] supply
uses_none None = refl
uses_none (Some words) = (words, refl, λ k. refl)

next_same : (f g : ℕ → ℕ) (used : List ℕ) (others : ℕ → ℕ) → ((k : ℕ) → g k ≡ f k)
    → AreNext g used others → AreNext f used others
next_same f g [] others same next = λ k. next k ∙ same k
next_same f g (word ∷ used) others same next = (
  next.0 ∙ same 0,
  next_same (λ k. f (k + 1)) (λ k. g (k + 1)) used others (λ k. same (k + 1)) next.1,
)

next_join : (f : ℕ → ℕ) (one other : List ℕ) (g h : ℕ → ℕ) → AreNext f one g → AreNext g other h
    → AreNext f (one ++ other) h
next_join f [] other g h first second = next_same f g other h first second
next_join f (word ∷ one) other g h first second =
    (first.0, next_join (λ k. f (k + 1)) one other g h first.1 second)

pub uses_join : (a : Supply) (one : List ℕ) (b : Supply) (other : List ℕ) (c : Supply)
    → Uses a one b → Uses b other c → Uses a (one ++ other) c
uses_join None one b other c first second = subst (λ x. Uses x other c) first second
uses_join (Some f) one b other c first second =
    let then : Uses (Some first.0) other c = subst (λ x. Uses x other c) first.1 second in
    (then.0, then.1, next_join f one other first.0 then.0 first.2 then.2)
