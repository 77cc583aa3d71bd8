-- Names as they lie in memory.
use Rattle.std.proofs.Common.{ℕ, ◌≡◌, ◌≤◌, List, ◌++◌, length, take, drop, replicate, true, sym, ap, ◌∙◌}
use Rattle.std.proofs.Math.Seq.{take-append_seam}
use Rattle.std.proofs.lemmas.List.{drop-replicate}
use Rattle.kern_model.specs.Name.{padded, is_name}
use Rattle.kern_model.specs.NameInside.{IsStored}

-- a name with zeros behind it is stored
pub stored_of : (text copied : List ℕ) → copied ≡ text → length text ≤ 15 → is_name text ≡ true → IsStored (record { bytes = copied ++ drop (length text) (replicate 15 0); length = length text })
stored_of text copied e short name =
    let view : take (length text) (copied ++ drop (length text) (replicate 15 0)) ≡ text = ap (λ xs. take (length text) (xs ++ drop (length text) (replicate 15 0))) e ∙ take-append_seam text _ in
    record {
      name = ap is_name view ∙ name;
      long = ap length view;
      zeros = ap padded view ∙ sym (ap (λ z. text ++ z) (drop-replicate (length text) 15 0)) ∙ ap (λ xs. xs ++ drop (length text) (replicate 15 0)) (sym e);
    }
