-- One text after another in a buffer.
use Rattle.std.proofs.Common.{◌≡◌, ℕ, ◌+◌, ◌-◌, ◌≤◌, List, ◌∷◌, ◌++◌, decimal, take, drop, sym, ap, subst, ◌∙◌, append_assoc, length-append, arith}
use Rattle.std.proofs.lemmas.List.{drop-drop}
use Rattle.std.specs.Net.Text.{dotted_text}
use Rattle.net_addr.specs.Appended.{Appends}

-- lists that agree from n on agree from m on
drop_later : (n m : ℕ) (xs ys : List ℕ) → n ≤ m → drop n xs ≡ drop n ys → drop m xs ≡ drop m ys
drop_later n m xs ys later same =
    let whole : n + (m - n) ≡ m = omega arith in
    ap (λ k. drop k xs) (sym whole) ∙ sym (drop-drop (m - n) n xs) ∙ ap (drop (m - n)) same ∙ drop-drop (m - n) n ys ∙ ap (λ k. drop k ys) whole

pub Appends-append : (old mid new s t : List ℕ) (at middle end : ℕ) → Appends old at s mid middle → Appends mid middle t new end → Appends old at (s ++ t) new end
Appends-append old mid new s t at middle end h k = record {
  ends = omega (arith, length-append s t, h.ends, k.ends);
  written = k.written ∙ ap (λ xs. xs ++ t) h.written ∙ append_assoc (take at old) s t;
  behind = k.behind ∙ drop_later middle end mid old (omega (arith, k.ends)) h.behind;
}

-- dotted decimal, a number at a time
pub dotted_text_pieces : (a b c d : ℕ) → ((decimal a ++ 46 ∷ decimal b) ++ 46 ∷ decimal c) ++ 46 ∷ decimal d ≡ dotted_text a b c d
dotted_text_pieces a b c d = simp append_assoc

pub Appends-same_text : (old new s t : List ℕ) (at end : ℕ) → s ≡ t → Appends old at s new end → Appends old at t new end
Appends-same_text old new s t at end same h = let P : List ℕ → Type 0 = λ text. Appends old at text new end in subst P same h
