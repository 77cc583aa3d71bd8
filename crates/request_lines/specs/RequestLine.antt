-- The lines that tell of requests, each with its newline.
use Rattle.std.specs.Prelude.{ℕ, List, [], ◌∷◌, ◌++◌, codes, decimal, Option, Some, None}
use Rattle.std.specs.List.{slice_get}
use Rattle.serde_json.specs.Written.{compact_text}
use Rattle.net_rows.specs.declared.rows.Conf.{Conf}
use Rattle.net_rows.specs.declared.rows.InterfaceRow.{InterfaceRow}
use Rattle.net_rows.specs.declared.rows.RadioRow.{RadioRow}
use Rattle.net_rules.specs.declared.event.Notice.{Notice}
use Rattle.net_rules.specs.declared.event.Notice.TheVariants as notice
use Rattle.request_lines.specs.OptionData.{options_data, radio_data}

-- a device, or `-` where there is none
abbrev pub device_text : Option (List ℕ) → List ℕ
device_text None = codes "-"
device_text (Some name) = name

-- an interface's ask: its number, its name, its protocol, its device and its options
abbrev pub interface_line : ℕ → Option (List ℕ) → InterfaceRow → List ℕ
interface_line number device row =
    codes "ask " ++ decimal number ++ codes " interface " ++ row.name ++ codes " " ++ row.proto
    ++ codes " " ++ device_text device ++ codes " " ++ compact_text (options_data row.options)
    ++ codes "\n"

-- a radio's ask: its number, its name, its options and those of its sections
abbrev pub radio_line : ℕ → RadioRow → List ℕ
radio_line number row =
    codes "ask " ++ decimal number ++ codes " radio " ++ row.name ++ codes " "
    ++ compact_text (radio_data row) ++ codes "\n"

-- where the rows have none at the place, there is no line
abbrev pub interface_line_at : ℕ → Option (List ℕ) → Option InterfaceRow → List ℕ
interface_line_at number device None = []
interface_line_at number device (Some row) = interface_line number device row

abbrev pub radio_line_at : ℕ → Option RadioRow → List ℕ
radio_line_at number None = []
radio_line_at number (Some row) = radio_line number row

-- the line of a notice over these rows
abbrev pub request_line : Conf → Notice → List ℕ
request_line conf (notice.Dropped number) = codes "drop " ++ decimal number ++ codes "\n"
request_line conf (notice.Interface number row device) =
    interface_line_at number device (slice_get conf.interfaces row)
request_line conf (notice.Radio number row) = radio_line_at number (slice_get conf.radios row)
