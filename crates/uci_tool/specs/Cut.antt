-- What cuts a run of `uci` short: its status and its text.
use Rattle.std.specs.Prelude.{ℕ, List}
use Rattle.uci_cli.specs.declared.refusal.TheConstants as texts
use Rattle.uci_tool.specs.declared.tool.Cut.{Cut}
use Rattle.uci_tool.specs.declared.tool.Cut.TheVariants.{TooLong, ReadFailed, WriteFailed, DiskFailed, Memory}

abbrev pub cut_status : Cut → ℕ
cut_status TooLong = 10
cut_status ReadFailed = 3
cut_status WriteFailed = 4
cut_status DiskFailed = 5
cut_status Memory = 8

abbrev pub cut_text : Cut → List ℕ
cut_text TooLong = texts.TOO_LARGE.now
cut_text ReadFailed = texts.DISK_FAILED.now
cut_text WriteFailed = texts.DISK_FAILED.now
cut_text DiskFailed = texts.DISK_FAILED.now
cut_text Memory = texts.OUT_OF_MEMORY.now
