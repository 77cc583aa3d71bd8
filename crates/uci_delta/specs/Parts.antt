-- The parts of the text of a delta file (OpenWrt's uci). That a quote which does not end reaches to the end of the
-- text, and that there are no comments, are rules of our own.
use Rattle.std.specs.Prelude.{ℕ, ◌≡◌, ◌≢◌, IsTrue, List, [], ◌∷◌, ◌++◌}
use Rattle.uci_text.specs.Byte.{newline}
use Rattle.uci_text.specs.ByteClass.{ends_word}
use Rattle.uci_text.specs.Piece.{Piece, piece_text, IsPiece}
use Rattle.uci_text.specs.Open.{Open, open_text, IsOpen}

-- what does not cut: a piece of a word, or a byte between words that is no newline
pub data IsUncut (bytes : List ℕ) : Type 0 where
  in_word : (piece : Piece) → IsPiece piece → bytes ≡ piece_text piece → IsUncut bytes
  between : (byte : ℕ) → IsTrue (ends_word byte) → byte ≢ newline → bytes ≡ byte ∷ [] → IsUncut bytes

-- The text is cut into these parts, from its left on, at the newlines that stand in no piece. A piece that lacks its
-- end reaches to the end of the text.
pub data AreParts : List ℕ → List (List ℕ) → Type 0 where
  at_end : (text : List ℕ) (parts : List (List ℕ))
      → text ≡ [] → parts ≡ [] ∷ []
      → AreParts text parts
  at_newline : (text rest : List ℕ) (parts more : List (List ℕ))
      → text ≡ newline ∷ rest → AreParts rest more → parts ≡ [] ∷ more
      → AreParts text parts
  goes_on : (text front rest part : List ℕ) (parts more : List (List ℕ))
      → text ≡ front ++ rest → IsUncut front → AreParts rest (part ∷ more) → parts ≡ (front ++ part) ∷ more
      → AreParts text parts
  unended : (text : List ℕ) (parts : List (List ℕ)) (open' : Open)
      → text ≡ open_text open' → IsOpen open' → parts ≡ text ∷ []
      → AreParts text parts

-- the front is the first part, and the parts of the back are the others
pub record IsCut (text front back : List ℕ) : Type 0 where
  pub whole : text ≡ front ++ newline ∷ back
  pub parts : (more : List (List ℕ)) → AreParts back more → AreParts text (front ∷ more)
