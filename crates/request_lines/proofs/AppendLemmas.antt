-- Pieces that are appended one after the other.
use Rattle.std.proofs.Common.{ℕ, ◌≡◌, List, ◌++◌, ap, ◌∙◌}
use Rattle.std.proofs.lemmas.List.{append_assoc}

-- two pieces behind what stood there are one
pub then : (old middle new first second : List ℕ) → middle ≡ old ++ first → new ≡ middle ++ second
    → new ≡ old ++ (first ++ second)
then old middle new first second one two =
    two ∙ (ap (λ xs. xs ++ second) one ∙ append_assoc old first second)

pub five : (o p q r s t a b c d e : List ℕ) → p ≡ o ++ a → q ≡ p ++ b → r ≡ q ++ c → s ≡ r ++ d
    → t ≡ s ++ e → t ≡ o ++ (a ++ b ++ c ++ d ++ e)
five o p q r s t a b c d e i j k l m =
    then o s t (a ++ b ++ c ++ d) e
    (then o r s (a ++ b ++ c) d
    (then o q r (a ++ b) c
    (then o p q a b i j) k) l) m

-- a piece by what it is
pub piece : (old new given is : List ℕ) → new ≡ old ++ given → given ≡ is → new ≡ old ++ is
piece old new given is one two = one ∙ ap (λ xs. old ++ xs) two
