-- Hardware addresses (IEEE 802, 48 bits): six pairs of hexadecimal digits, with a colon between each two.
use Rattle.std.specs.Prelude.{ℕ, ◌+◌, ◌*◌, ◌==◌, Bool, ◌&&◌, List, [], ◌∷◌, Option, Some, None, if◌then◌else◌, length}
use Rattle.std.specs.Prelude.{slice_index}
use Rattle.std.specs.Char.{digit_value, is_digit}
use Rattle.net_addr.specs.Byte.{colon}
use Rattle.kern_model.specs.declared.object.Mac.{Mac}

-- the value of a hexadecimal digit of either case
abbrev pub digit_of : ℕ → Option ℕ
digit_of byte = if is_digit byte 16 then Some (digit_value byte) else None

abbrev pub octet_of : Option ℕ → Option ℕ → Option ℕ
octet_of None low = None
octet_of (Some high) None = None
octet_of (Some high) (Some low) = Some (high * 16 + low)

-- the octet that the two digits from a place on are
abbrev pub octet_at : List ℕ → ℕ → Option ℕ
octet_at text place = octet_of (digit_of (slice_index text place)) (digit_of (slice_index text (place + 1)))

-- an octet in front of others, where all of them read
abbrev pub in_front : Option ℕ → Option (List ℕ) → Option (List ℕ)
in_front None others = None
in_front (Some octet) None = None
in_front (Some octet) (Some octets) = Some (octet ∷ octets)

-- the octets from these places on
abbrev pub octets_at : List ℕ → List ℕ → Option (List ℕ)
octets_at text [] = Some []
octets_at text (place ∷ places) = in_front (octet_at text place) (octets_at text places)

abbrev pub address_of : Option (List ℕ) → Option Mac
address_of None = None
address_of (Some octets) = Some (record { 0 = octets })

-- a colon stands behind each pair but the last
abbrev pub has_colons : List ℕ → Bool
has_colons text =
    (slice_index text 2 == colon) && (slice_index text 5 == colon) && (slice_index text 8 == colon)
    && (slice_index text 11 == colon) && (slice_index text 14 == colon)

-- the address that a text is
abbrev pub mac_of : List ℕ → Option Mac
mac_of text =
    if (length text == 17) && has_colons text
    then address_of (octets_at text (0 ∷ 3 ∷ 6 ∷ 9 ∷ 12 ∷ 15 ∷ []))
    else None
