-- How the bytes of words stand, one behind another (OpenWrt's UCI file syntax).
use Rattle.std.specs.Prelude.{ℕ, Bool, false, List, [], ◌∷◌, ◌||◌, nat_eq, if◌then◌else◌}
use Rattle.uci_text.specs.Byte.{newline, double_quote, single_quote, backslash}
use Rattle.uci_text.specs.ByteClass.{ends_word, is_quoting}
use Rattle.uci_text.specs.Piece.{escaped_value}
use Rattle.uci_delta.specs.declared.quoting.Quoting.{Quoting}
use Rattle.uci_delta.specs.declared.quoting.Quoting.TheVariants.{Bare, BarePair, Single, Double, DoublePair}

-- how a byte stands that comes behind this one
abbrev pub behind : Quoting → ℕ → Quoting
behind Bare byte = if nat_eq byte single_quote then Single else if nat_eq byte double_quote then Double
    else if nat_eq byte backslash then BarePair else Bare
behind BarePair byte = Bare
behind Single byte = if nat_eq byte single_quote then Bare else Single
behind Double byte = if nat_eq byte double_quote then Bare else if nat_eq byte backslash then DoublePair else Double
behind DoublePair byte = Double

-- a newline that stands in no piece of a word
abbrev pub is_cut : Quoting → ℕ → Bool
is_cut Bare byte = nat_eq byte newline
is_cut BarePair byte = false
is_cut Single byte = false
is_cut Double byte = false
is_cut DoublePair byte = false

-- a byte that ends a word
abbrev pub ends : Quoting → ℕ → Bool
ends Bare byte = ends_word byte
ends BarePair byte = false
ends Single byte = false
ends Double byte = false
ends DoublePair byte = false

-- what the byte gives to the value of its word
abbrev pub kept : Quoting → ℕ → List ℕ
kept Bare byte = if is_quoting byte then [] else byte ∷ []
kept BarePair byte = escaped_value byte
kept Single byte = if nat_eq byte single_quote then [] else byte ∷ []
kept Double byte = if nat_eq byte double_quote || nat_eq byte backslash then [] else byte ∷ []
kept DoublePair byte = escaped_value byte
