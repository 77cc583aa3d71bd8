-- The classes of bytes that UCI text is made of (OpenWrt's UCI file syntax).
use Rattle.std.specs.Prelude.{ℕ, ◌≡◌, List, [], ◌∷◌, ◌++◌, Bool, IsTrue, not, ◌||◌, nat_eq}
use Rattle.std.specs.Char.{is_ascii_alphanumeric, is_ascii_graphic}
use Rattle.std.specs.List.{AllByRecursion, count_by}
use Rattle.uci_text.specs.declared.byte_class.ByteClass.{ByteClass}
use Rattle.uci_text.specs.declared.byte_class.ByteClass.TheVariants.{Space, Blank, InLine, Plain, Quotable}
use Rattle.uci_text.specs.declared.byte_class.ByteClass.TheVariants.{DoubleQuotable, NotZero, Name, PackageName}
use Rattle.uci_text.specs.declared.byte_class.ByteClass.TheVariants.{Printable}
use Rattle.uci_text.specs.Byte.{nul, tab, newline, vertical_tab, form_feed, carriage_return, space, double_quote}
use Rattle.uci_text.specs.Byte.{number_sign, single_quote, dash, semicolon, backslash, underscore}

-- space, tab, CR, VT or FF
abbrev pub is_space : ℕ → Bool
is_space byte =
    nat_eq byte space || nat_eq byte tab || nat_eq byte carriage_return
    || nat_eq byte vertical_tab || nat_eq byte form_feed

-- a newline or `;`
abbrev pub is_separator : ℕ → Bool
is_separator byte = nat_eq byte newline || nat_eq byte semicolon

-- a newline, `;` or `#`: what ends a command
abbrev pub ends_command : ℕ → Bool
ends_command byte = is_separator byte || nat_eq byte number_sign

-- white space, a newline, `;` or `#`: what ends a word
abbrev pub ends_word : ℕ → Bool
ends_word byte = is_space byte || ends_command byte

-- ' " or \
abbrev pub is_quoting : ℕ → Bool
is_quoting byte = nat_eq byte single_quote || nat_eq byte double_quote || nat_eq byte backslash

-- a letter, a digit or `_`
abbrev pub is_name_byte : ℕ → Bool
is_name_byte byte = is_ascii_alphanumeric byte || nat_eq byte underscore

-- The bytes of each class. A zero byte is plain, and may stand within quotes and comments: so each text has its
-- commands, also one that no reading takes.
abbrev pub is_in : ByteClass → ℕ → Bool
is_in Space byte = is_space byte
is_in Blank byte = is_space byte || is_separator byte
is_in InLine byte = not (nat_eq byte newline)
is_in Plain byte = not (ends_word byte || is_quoting byte)
is_in Quotable byte = not (nat_eq byte single_quote)
is_in DoubleQuotable byte = not (nat_eq byte double_quote || nat_eq byte backslash)
is_in NotZero byte = not (nat_eq byte nul)
is_in Name byte = is_name_byte byte
is_in PackageName byte = is_name_byte byte || nat_eq byte dash
is_in Printable byte = is_ascii_graphic byte

-- all of the bytes are of the class
abbrev pub AllIn : ByteClass → List ℕ → Type 0
AllIn class bytes = AllByRecursion (λ byte. IsTrue (is_in class byte)) bytes

-- the bytes are at their end, or the next one passes the test
abbrev pub IsAtEndOr : (ℕ → Bool) → List ℕ → Type 0
IsAtEndOr test [] = Unit {0}
IsAtEndOr test (byte ∷ bytes) = IsTrue (test byte)

-- the front is the longest one whose bytes are of the class, and the rest is behind it
pub record SplitsBehind (class : ByteClass) (bytes front rest : List ℕ) : Type 0 where
  pub whole : bytes ≡ front ++ rest
  pub within : AllIn class front
  pub outside : IsAtEndOr (λ byte. not (is_in class byte)) rest

-- how many of the bytes are newlines
abbrev pub newlines : List ℕ → ℕ
newlines bytes = count_by (λ byte. nat_eq byte newline) bytes
