-- The options of `run`, read one after another.
use Rattle.std.proofs.Common.{ℕ, ◌≡◌, List, ◌∷◌, Some, ap, sym, ◌∙◌}
use Rattle.std.specs.Option.{option_and_then}
use Rattle.plane_main.specs.declared.run_words.RunOptions.{RunOptions}
use Rattle.plane_main.specs.RunWords.{with_option, options_of}

pub one_read : (given next : RunOptions) (words : List (List ℕ)) (word value : List ℕ)
    (rest : List (List ℕ)) → words ≡ word ∷ value ∷ rest → with_option given word value ≡ Some next
    → options_of next rest ≡ options_of given words
one_read given next words word value rest is with =
    sym (ap (option_and_then (λ g. options_of g rest)) with) ∙ sym (ap (options_of given) is)
