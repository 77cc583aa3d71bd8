-- The text that JSON gives bytes.
use Rattle.std.specs.Prelude.{ℕ, List, encode_utf8_all, if◌then◌else◌}
use Rattle.std.specs.Str.{is_utf8}

-- the bytes where they are UTF-8, otherwise each as the character of that number
abbrev pub json_text_of : List ℕ → List ℕ
json_text_of bytes = if is_utf8 bytes then bytes else encode_utf8_all bytes
