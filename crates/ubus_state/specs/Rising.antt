-- Rows by rising number.
use Rattle.std.specs.Prelude.{ℕ, ◌<◌, List, length, slice_index_or}
use Rattle.std.specs.List.{All}
use Rattle.ubus_table.specs.declared.rows.Client.{Client}
use Rattle.ubus_table.specs.declared.rows.Object.{Object}

-- each row has a lower number than those after it
abbrev pub Rise : {X : Type 0} → (X → ℕ) → List X → Type 0
Rise {X} number rows = (i j : ℕ) (d : X) → i < j → j < length rows
    → number (slice_index_or rows i d) < number (slice_index_or rows j d)

-- the rows rise, and the next number is above them all
abbrev pub IsRising : {X : Type 0} → (X → ℕ) → List X → ℕ → Type 0
IsRising number rows next = Rise number rows × All (λ row. number row < next) rows

abbrev pub object_number : Object → ℕ
object_number object = object.number

abbrev pub client_number : Client → ℕ
client_number client = client.number
