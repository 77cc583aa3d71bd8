-- The options of `uci` (OpenWrt's). Each may be repeated, and the last one counts.
use Rattle.std.specs.Prelude.{ℕ, List, codes, true, false, bytes_eq, Option, Some, None, if◌then◌else◌}
use Rattle.uci_cli.specs.declared.options.Options.{Options}
use Rattle.uci_cli.specs.declared.options.Flag.{Flag}
use Rattle.uci_cli.specs.declared.options.Flag.TheVariants as flag
use Rattle.uci_cli.specs.declared.options.Field.{Field}
use Rattle.uci_cli.specs.declared.options.Field.TheVariants as field

-- where no option says otherwise
abbrev pub usual : Options
usual = record {
  files = codes "/etc/config";
  staged = codes "/tmp/.uci";
  input = None;
  between = codes " ";
  quiet = false;
  names = false;
  by_name = false;
  merge = false;
}

-- the option without a value that a word is
abbrev pub flag_of : List ℕ → Option Flag
flag_of word =
    if bytes_eq word (codes "-q") then Some flag.Quiet else
    if bytes_eq word (codes "-n") then Some flag.Names else
    if bytes_eq word (codes "-N") then Some flag.NoNames else
    if bytes_eq word (codes "-X") then Some flag.ByName else
    if bytes_eq word (codes "-m") then Some flag.Merge else None

-- the option with a value that a word is
abbrev pub field_of : List ℕ → Option Field
field_of word =
    if bytes_eq word (codes "-c") then Some field.Files else
    if bytes_eq word (codes "-t") then Some field.Staged else
    if bytes_eq word (codes "-d") then Some field.Between else
    if bytes_eq word (codes "-f") then Some field.Input else None

-- what an option makes of those before it
abbrev pub with_flag : Flag → Options → Options
with_flag flag.Quiet options = record options { quiet = true }
with_flag flag.Names options = record options { names = true }
with_flag flag.NoNames options = record options { names = false }
with_flag flag.ByName options = record options { by_name = true }
with_flag flag.Merge options = record options { merge = true }

abbrev pub with_field : Field → List ℕ → Options → Options
with_field field.Files value options = record options { files = value }
with_field field.Staged value options = record options { staged = value }
with_field field.Between value options = record options { between = value }
with_field field.Input value options = record options { input = Some value }
