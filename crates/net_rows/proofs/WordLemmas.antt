-- Words of a text that is cut at its spaces.
use Rattle.std.proofs.Common.{ℕ, ◌≡◌, List, [], ◌∷◌, ◌++◌, Result, Ok, Err, OnOk, ◌∙◌, ap, sym, append_assoc}
use Rattle.std.specs.Prelude.{not, length, ◌==◌}
use Rattle.std.specs.List.{slice_split}
use Rattle.std.proofs.lemmas.List.Elements.{filter-append}
use Rattle.net_rows.specs.Cut.{HasNone, CutsAtFirst}
use Rattle.net_rows.specs.Words.{space, kept, words}
use Rattle.net_rows.proofs.CutLemmas.{split_at, split_none}

-- what follows from a fact at Ok holds at Ok
pub on_ok_then : {X E P Q : Type 0} (r : Result X E) → (P → Q) → OnOk r P → OnOk r Q
on_ok_then (Ok x) then p = then p
on_ok_then (Err e) then p = tt

words_at : (word behind : List ℕ) → HasNone space word → words (word ++ space ∷ behind) ≡ kept (word ∷ []) ++ words behind
words_at word behind none = ap kept (split_at space word behind none) ∙ filter-append (λ part. not (length part == 0)) (word ∷ []) (slice_split (λ b. b == space) behind)

pub word_and_rest : (before : List (List ℕ)) (rest word behind : List ℕ) → CutsAtFirst space rest word behind → (before ++ kept (word ∷ [])) ++ words behind ≡ before ++ words rest
word_and_rest before rest word behind cut =
    append_assoc before (kept (word ∷ [])) (words behind) ∙ ap (λ (z : List (List ℕ)). before ++ z) (sym (ap words cut.whole ∙ words_at word behind cut.first))

pub last_word : (before : List (List ℕ)) (rest : List ℕ) → HasNone space rest → before ++ kept (rest ∷ []) ≡ before ++ words rest
last_word before rest none = ap (λ (z : List (List ℕ)). before ++ kept z) (sym (split_none space rest none))
