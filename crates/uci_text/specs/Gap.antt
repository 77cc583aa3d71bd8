-- What stands between commands: white space, newlines, `;` and comments (OpenWrt's UCI file syntax).
use Rattle.std.specs.Prelude.{ℕ, ◌≡◌, List, [], ◌∷◌, ◌++◌, not, nat_eq}
use Rattle.std.specs.List.{flat_map}
use Rattle.uci_text.specs.declared.byte_class.ByteClass.TheVariants.{Blank, InLine}
use Rattle.uci_text.specs.Byte.{newline, number_sign}
use Rattle.uci_text.specs.ByteClass.{AllIn, IsAtEndOr, ends_word}

-- bytes of white space, newlines and `;`, or a comment: `#` and bytes up to before a newline
pub data Filler : Type 0 where
  blank : List ℕ → Filler
  comment : List ℕ → Filler

abbrev pub filler_text : Filler → List ℕ
filler_text (blank bytes) = bytes
filler_text (comment bytes) = number_sign ∷ bytes

abbrev pub gap_text : List Filler → List ℕ
gap_text fillers = flat_map filler_text fillers

-- the fillers are of their form, where this follows them: behind a comment is a newline, or the end of the text
abbrev pub AreFillers : List Filler → List ℕ → Type 0
AreFillers [] behind = Unit {0}
AreFillers (blank bytes ∷ fillers) behind = AllIn Blank bytes × AreFillers fillers behind
AreFillers (comment bytes ∷ fillers) behind = AllIn InLine bytes
    × IsAtEndOr (λ byte. nat_eq byte newline) (gap_text fillers ++ behind) × AreFillers fillers behind

-- the gap ends where this follows it: where a command begins, or at the end of the text
pub record IsGap (gap behind : List ℕ) : Type 0 where
  pub fillers : List Filler
  pub whole : gap ≡ gap_text fillers
  pub each : AreFillers fillers behind
  pub next : IsAtEndOr (λ byte. not (ends_word byte)) behind
