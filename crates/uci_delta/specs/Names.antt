-- Tests of names and values (OpenWrt's UCI file syntax).
use Rattle.std.specs.Prelude.{ℕ, List, length, Bool, not, ◌&&◌, nat_eq}
use Rattle.std.specs.List.{list_all}
use Rattle.uci_text.specs.declared.byte_class.ByteClass.{ByteClass}
use Rattle.uci_text.specs.declared.byte_class.ByteClass.TheVariants.{NotZero}
use Rattle.uci_text.specs.ByteClass.{is_in}

-- whether the bytes are one or more of the class
abbrev pub is_name_of : ByteClass → List ℕ → Bool
is_name_of class bytes = not (nat_eq (length bytes) 0) && list_all (is_in class) bytes

-- whether the bytes may be a value: none of them is zero
abbrev pub is_value : List ℕ → Bool
is_value bytes = list_all (is_in NotZero) bytes
