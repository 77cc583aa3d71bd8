-- What single words of a line give.
use Rattle.std.specs.Prelude.{ℕ, List, codes, Bool, true, false, bytes_eq, nat_lt, Option, Some, None, Result, Ok, Err}
use Rattle.std.specs.Prelude.{if◌then◌else◌}
use Rattle.std.specs.Str.Parse.{digits_value}
use Rattle.hex.specs.Hex.{decode_of, decode_sized}
use Rattle.hex.specs.declared.error.FromHexError.{FromHexError}
use Rattle.std.specs.Int.{from_be_bytes, w128}
use Rattle.kern_model.specs.Name.{is_name}
use Rattle.net_rows.specs.Number.{is_numeral}

-- a number of 64 bits
abbrev pub of_64_bits : ℕ → Option ℕ
of_64_bits number = if nat_lt number 18446744073709551616 then Some number else None

-- the number that decimal digits without a sign are, where it has 64 bits; zeros may stand in front
abbrev pub long_decimal_of : List ℕ → Option ℕ
long_decimal_of text = if is_numeral text then of_64_bits (digits_value 10 text) else None

-- the name of a device
abbrev pub name_of : List ℕ → Option (List ℕ)
name_of text = if is_name text then Some text else None

-- `0` or `1`
abbrev pub switch_of : List ℕ → Option Bool
switch_of text =
    if bytes_eq text (codes "0") then Some false else
    if bytes_eq text (codes "1") then Some true else None

-- bytes as pairs of hexadecimal digits of either case
abbrev pub found_bytes : Result (List ℕ) FromHexError → Option (List ℕ)
found_bytes (Ok bytes) = Some bytes
found_bytes (Err error) = None

abbrev pub bytes_of : List ℕ → Option (List ℕ)
bytes_of text = found_bytes (decode_of text)

-- a session as 32 hexadecimal digits of either case
abbrev pub found_number : Result (List ℕ) FromHexError → Option ℕ
found_number (Ok bytes) = Some (from_be_bytes w128 bytes)
found_number (Err error) = None

abbrev pub session_of : List ℕ → Option ℕ
session_of text = found_number (decode_sized text 16)

-- the same, or `-` for none
abbrev pub some_session : Option ℕ → Option (Option ℕ)
some_session None = None
some_session (Some session) = Some (Some session)

abbrev pub caller_of : List ℕ → Option (Option ℕ)
caller_of text = if bytes_eq text (codes "-") then Some None else some_session (session_of text)
