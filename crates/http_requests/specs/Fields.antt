-- What the fields of a head state (RFC 9112, section 6). Names are compared without regard to case. A value has no
-- white space around it.
use Rattle.std.specs.Prelude.{ℕ, List, [], ◌∷◌, Option, Some, None, Bool, false, map, codes, if◌then◌else◌, bytes_eq}
use Rattle.std.specs.Prelude.{length, nat_lt, ◌==◌}
use Rattle.std.specs.List.{list_all, list_any}
use Rattle.std.specs.Char.{is_ascii_digit, to_ascii_lowercase}
use Rattle.std.specs.Str.Parse.{digits_value}

-- the name and the value of a field
abbrev pub NamedValue : Type 0
NamedValue = List ℕ × List ℕ

-- the texts differ in the case of ASCII letters at most
abbrev pub same_without_case : List ℕ → List ℕ → Bool
same_without_case one other = bytes_eq (map to_ascii_lowercase one) (map to_ascii_lowercase other)

-- the values of the fields of a name
abbrev pub values_of : List ℕ → List NamedValue → List (List ℕ)
values_of name [] = []
values_of name (field ∷ fields) =
    if same_without_case field.0 name then field.1 ∷ values_of name fields else values_of name fields

-- a length is 1 to 19 decimal digits
abbrev pub is_length : List ℕ → Bool
is_length text =
    if length text == 0 then false else (if nat_lt 19 (length text) then false else list_all is_ascii_digit text)

-- the number that such a text is
abbrev pub length_of : List ℕ → Option ℕ
length_of text = if is_length text then Some (digits_value 10 text) else None

-- the length by the values of `Transfer-Encoding` and of `Content-Length`: there is no value of the first and one of
-- the second
abbrev pub length_by : List (List ℕ) → List (List ℕ) → Option ℕ
length_by [] [] = None
length_by [] (value ∷ []) = length_of value
length_by [] (value ∷ other ∷ others) = None
length_by (coding ∷ codings) lengths = None

-- the length of the body that the fields state
abbrev pub body_length : List NamedValue → Option ℕ
body_length fields =
    length_by (values_of (codes "transfer-encoding") fields) (values_of (codes "content-length") fields)

-- a field `Connection` has the value `close`, in any case
abbrev pub asks_for_close : List NamedValue → Bool
asks_for_close fields =
    list_any (λ value. same_without_case value (codes "close")) (values_of (codes "connection") fields)
