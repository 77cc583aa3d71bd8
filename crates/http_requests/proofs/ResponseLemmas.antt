-- Texts one after the other.
use Rattle.std.proofs.Common.{ℕ, ◌≡◌, ◌++◌, List, ap, ◌∙◌}
use Rattle.std.proofs.lemmas.List.{append_assoc}

-- five texts that are appended one by one
pub five : (out a b c d e : List ℕ) → ((((out ++ a) ++ b) ++ c) ++ d) ++ e ≡ out ++ (a ++ (b ++ (c ++ (d ++ e))))
five out a b c d e =
    append_assoc (((out ++ a) ++ b) ++ c) d e
    ∙ (append_assoc ((out ++ a) ++ b) c (d ++ e)
    ∙ (append_assoc (out ++ a) b (c ++ (d ++ e)) ∙ append_assoc out a (b ++ (c ++ (d ++ e)))))
