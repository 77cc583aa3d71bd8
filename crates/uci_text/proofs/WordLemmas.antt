-- Words.
use Rattle.std.proofs.Common.{ℕ, ◌≡◌, ◌<◌, ◌+◌, List, [], ◌∷◌, ◌++◌, length, arith, sym, refl, ap, ◌∙◌, append_assoc, length-append}
use Rattle.std.specs.List.{AllByRecursion}
use Rattle.std.proofs.lemmas.List.{append-nil}
use Rattle.std.proofs.lemmas.List.Concat.{flat_map-append}
use Rattle.uci_text.specs.declared.stop.Stop.{Stop}
use Rattle.uci_text.specs.ByteClass.{IsAtEndOr, ends_word}
use Rattle.uci_text.specs.Piece.{Piece, plain, escaped, single, double, piece_text, piece_value, IsPiece}
use Rattle.uci_text.specs.Word.{IsWord, word_text, word_value}
use Rattle.uci_text.specs.Found.{TakesPiece, IsOpenPiece, TakesWord, IsOpenWord}
use Rattle.uci_text.proofs.ClassLemmas.{each-append}

pub piece_length : (piece : Piece) → IsPiece piece → 0 < length (piece_text piece)
piece_length (plain run) p = p.0
piece_length (escaped byte) p = omega arith
piece_length (single bytes) p = omega arith
piece_length (double inner) p = omega arith

-- the pieces so far
pub record WordSoFar (bytes rest value : List ℕ) : Type 0 where
  pub pieces : List Piece
  pub whole : bytes ≡ word_text pieces ++ rest
  pub each : AllByRecursion IsPiece pieces
  pub value_is : value ≡ word_value pieces

pub word_none : (bytes : List ℕ) → WordSoFar bytes bytes []
word_none bytes = record { pieces = []; whole = refl; each = tt; value_is = refl }

-- one piece more: the word is one, and may go on
pub record WordThrough (bytes rest value : List ℕ) : Type 0 where
  pub so_far : WordSoFar bytes rest value
  pub some : 0 < length so_far.pieces

pub word_more : (bytes rest next old new : List ℕ) → WordSoFar bytes rest old → TakesPiece rest old new next → WordThrough bytes next new
word_more bytes rest next old new r t =
    let texts : word_text (r.pieces ++ t.piece ∷ []) ≡ word_text r.pieces ++ (piece_text t.piece ++ []) = flat_map-append piece_text r.pieces (t.piece ∷ []) in
    let values : word_value (r.pieces ++ t.piece ∷ []) ≡ word_value r.pieces ++ (piece_value t.piece ++ []) = flat_map-append piece_value r.pieces (t.piece ∷ []) in
    let size : length (r.pieces ++ t.piece ∷ []) ≡ length r.pieces + 1 = length-append r.pieces (t.piece ∷ []) in
    record {
      so_far = record {
        pieces = r.pieces ++ t.piece ∷ [];
        whole = r.whole ∙ ap (λ (z : List ℕ). word_text r.pieces ++ z) t.whole ∙ sym (ap (λ (z : List ℕ). z ++ next) texts ∙ simp (append_assoc, append-nil));
        each = each-append IsPiece r.pieces (t.piece ∷ []) r.each (t.is, tt);
        value_is = t.value ∙ ap (λ (z : List ℕ). z ++ piece_value t.piece) r.value_is ∙ sym (values ∙ simp append-nil);
      };
      some = omega arith;
    }

pub word_done : (bytes rest value text : List ℕ) → WordThrough bytes rest value → IsAtEndOr ends_word rest → text ≡ value → TakesWord bytes text rest
word_done bytes rest value text t e is = record {
  pieces = t.so_far.pieces;
  whole = t.so_far.whole;
  is = record { some = t.some; each = t.so_far.each };
  value_is = is ∙ t.so_far.value_is;
  end = e;
}

pub word_open : (bytes rest value : List ℕ) (stop : Stop) → WordSoFar bytes rest value → IsOpenPiece rest stop → IsOpenWord bytes stop
word_open bytes rest value stop r o = record { pieces = r.pieces; last = rest; whole = r.whole; each = r.each; last_is = o }

pub piece_shortens : (bytes old new rest : List ℕ) → TakesPiece bytes old new rest → length rest < length bytes
piece_shortens bytes old new rest t =
    let l : 0 < length (piece_text t.piece) = piece_length t.piece t.is in
    let e : length bytes ≡ length (piece_text t.piece ++ rest) = ap length t.whole in
    let s : length (piece_text t.piece ++ rest) ≡ length (piece_text t.piece) + length rest = length-append (piece_text t.piece) rest in
    omega arith

pub word_length : (pieces : List Piece) → IsWord pieces → 0 < length (word_text pieces)
word_length [] w =
    let n : 0 < length {A = Piece} [] = w.some in
    absurd (omega arith)
word_length (p ∷ pieces) w =
    let l : 0 < length (piece_text p) = piece_length p w.each.0 in
    let s : length (piece_text p ++ word_text pieces) ≡ length (piece_text p) + length (word_text pieces) = length-append (piece_text p) (word_text pieces) in
    omega arith

pub word_shortens : (bytes value rest : List ℕ) → TakesWord bytes value rest → length rest < length bytes
word_shortens bytes value rest t =
    let l : 0 < length (word_text t.pieces) = word_length t.pieces t.is in
    let e : length bytes ≡ length (word_text t.pieces ++ rest) = ap length t.whole in
    let s : length (word_text t.pieces ++ rest) ≡ length (word_text t.pieces) + length rest = length-append (word_text t.pieces) rest in
    omega arith
