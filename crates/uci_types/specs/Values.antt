-- The values of a datatype, as a test of values: one step over the type.
use Rattle.std.specs.Prelude.{ℕ, ℤ, pos, List, Bool, true, false, not, ◌&&◌, ◌||◌, ◌==◌, bytes_eq, int_le, is_some}
use Rattle.std.specs.Prelude.{length, nat_le, Option, Some, None}
use Rattle.std.specs.List.{list_any, list_all}
use Rattle.uci_text.specs.ByteClass.{is_name_byte}
use Rattle.net_rows.specs.Truth.{is_true, is_false}
use Rattle.net_rows.specs.HardwareAddress.{mac_of}
use Rattle.net_rows.specs.Words.{words}
use Rattle.uci_types.specs.declared.datatype.Kind.{Kind}
use Rattle.uci_types.specs.declared.datatype.Kind.TheVariants.{AnyText, Bool as Truth, Integer, Uinteger, Port}
use Rattle.uci_types.specs.declared.datatype.Kind.TheVariants.{IpAddr, Ip4Addr, Ip6Addr, Cidr4, Cidr6, MacAddr, UciName}
use Rattle.uci_types.specs.declared.datatype.Datatype.{Datatype, fold-Datatype}
use Rattle.uci_types.specs.declared.datatype.Datatype.TheOpen.{Datatype-F}
use Rattle.uci_types.specs.Number.{is_natural, is_integer, integer_of}
use Rattle.uci_types.specs.Address.{is_ipv4, is_ipv6, is_cidr4, is_cidr6}

-- a number from one to another
abbrev pub is_from_to : ℤ → ℤ → Option ℤ → Bool
is_from_to low high None = false
is_from_to low high (Some number) = int_le low number && int_le number high

-- an integer from one to another
abbrev pub is_between : ℤ → ℤ → List ℕ → Bool
is_between low high value = is_from_to low high (integer_of value)

-- one of the ten truth words
abbrev pub is_truth_word : List ℕ → Bool
is_truth_word value = is_true value || is_false value

-- one letter, digit or `_`, or more
abbrev pub is_section_name : List ℕ → Bool
is_section_name value = not (length value == 0) && list_all is_name_byte value

-- a value of a name without arguments
abbrev pub is_of_kind : Kind → List ℕ → Bool
is_of_kind AnyText value = true
is_of_kind Truth value = is_truth_word value
is_of_kind Integer value = is_integer value
is_of_kind Uinteger value = is_natural value
is_of_kind Port value = is_natural value && is_between (pos 0) (pos 65535) value
is_of_kind IpAddr value = is_ipv4 value || is_ipv6 value
is_of_kind Ip4Addr value = is_ipv4 value
is_of_kind Ip6Addr value = is_ipv6 value
is_of_kind Cidr4 value = is_cidr4 value
is_of_kind Cidr6 value = is_cidr6 value
is_of_kind MacAddr value = is_some (mac_of value)
is_of_kind UciName value = is_section_name value

-- one level, with the test of each datatype inside
abbrev pub set_step : Datatype-F (List ℕ → Bool) → List ℕ → Bool
set_step (Datatype-F.Plain kind) value = is_of_kind kind value
set_step (Datatype-F.Literal text) value = bytes_eq value text
set_step (Datatype-F.Or tests) value = list_any (λ (test : List ℕ → Bool). test value) tests
set_step (Datatype-F.And tests) value = list_all (λ (test : List ℕ → Bool). test value) tests
set_step (Datatype-F.Not test) value = not (test value)
set_step (Datatype-F.Items test) value = list_all test (words value)
set_step (Datatype-F.Range low high) value = is_between low high value
set_step (Datatype-F.Length low high) value = nat_le low (length value) && nat_le (length value) high

-- the value is one of the datatype
abbrev pub in_set : Datatype → List ℕ → Bool
in_set = fold-Datatype (List ℕ → Bool) set_step

-- it is one of some of these, of each of these; each word of it is one of the datatype
abbrev pub in_some : List Datatype → List ℕ → Bool
in_some parts value = list_any (λ part. in_set part value) parts

abbrev pub in_all : List Datatype → List ℕ → Bool
in_all parts value = list_all (λ part. in_set part value) parts

abbrev pub in_each_word : Datatype → List ℕ → Bool
in_each_word datatype value = list_all (in_set datatype) (words value)
