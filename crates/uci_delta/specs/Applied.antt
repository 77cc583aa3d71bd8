-- What a delta makes of a package (OpenWrt's uci).
use Rattle.std.specs.Prelude.{ℕ, ◌+◌, ◌-◌, ◌^◌, List, length, Option, Some, None, Result, min}
use Rattle.uci_tree.specs.declared.package.Section.{Section}
use Rattle.uci_tree.specs.declared.package.Package.{Package}
use Rattle.uci_delta.specs.declared.delta.Change.{Change}
use Rattle.uci_delta.specs.declared.delta.Delta.{Delta}
use Rattle.uci_delta.specs.declared.delta_error.DeltaError.{DeltaError}
use Rattle.uci_delta.specs.First.{made}
use Rattle.uci_delta.specs.Sections.{sections_with, sections_with_option}

-- the sections with a change of a section, or of an option in it
abbrev pub changed : List ℕ → Option (List ℕ) → Change → List Section → Result (List Section) DeltaError
changed name None change sections = sections_with name change sections
changed name (Some option) change sections = sections_with_option name option change sections

-- how many sections were made, where so many come; the count stands still at the end of its 64 bits
abbrev pub made_with : ℕ → ℕ → ℕ
made_with before more = min (before + more) (2 ^ 64 - 1)

-- the package with these sections in place of its own
abbrev pub with_sections : Package → List Section → Package
with_sections tree sections = record tree
    { sections = sections; made = made_with tree.made (length sections - length tree.sections) }

-- the package with the delta, or why it is refused; the delta's package is not looked at
abbrev pub applied : Package → Delta → Result Package DeltaError
applied tree delta = made (with_sections tree) (changed delta.section delta.option delta.change tree.sections)
