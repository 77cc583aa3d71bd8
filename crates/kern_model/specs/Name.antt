-- Names of network devices, as Linux takes them (`dev_valid_name`) and within printable ASCII.
use Rattle.std.specs.Prelude.{ℕ, ◌-◌, List, ◌++◌, codes, length, replicate, bytes_eq, ◌==◌}
use Rattle.std.specs.Prelude.{Bool, ◌&&◌, not, nat_le}
use Rattle.std.specs.List.{list_all}
use Rattle.net_addr.specs.Byte.{slash, colon}

-- a byte from 33 to 126 but `/` and `:`
abbrev pub is_name_byte : ℕ → Bool
is_name_byte b = nat_le 33 b && nat_le b 126 && not (b == slash) && not (b == colon)

-- 1 to 15 such bytes, but for `.` and `..`
abbrev pub is_name : List ℕ → Bool
is_name bytes =
    nat_le 1 (length bytes) && nat_le (length bytes) 15 && list_all is_name_byte bytes
    && not (bytes_eq bytes (codes ".")) && not (bytes_eq bytes (codes ".."))

-- the bytes, and zeros after them up to 15
abbrev pub padded : List ℕ → List ℕ
padded name = name ++ replicate (15 - length name) 0
