-- Changes of holders, and which of them a call drops.
use Rattle.std.specs.Prelude.{ℕ, List, Bool, not, ◌&&◌, Option, Some, nat_eq, map, filter}
use Rattle.std.specs.List.{list_any}
use Rattle.uci_delta.specs.declared.delta.Delta.{Delta}
use Rattle.uci_delta.specs.Printed.{lines_of}
use Rattle.uci_staged.specs.declared.change.StagedChange.{StagedChange}
use Rattle.uci_staged.specs.Under.{is_dropped}
use Rattle.uci_tree.specs.declared.path.Path.{Path}

-- the change is one of that holder, of the package of that file
abbrev pub is_of : ℕ → ℕ → StagedChange → Bool
is_of holder file change = nat_eq change.holder holder && nat_eq change.file file

-- these deltas as changes of the holder, of the package of that file
abbrev pub changes_at : ℕ → ℕ → List Delta → List StagedChange
changes_at holder file deltas = map (λ delta. record { holder = holder; file = file; delta = delta }) deltas

-- what the holder has staged of the package, in its order
abbrev pub deltas_in : ℕ → ℕ → List StagedChange → List Delta
deltas_in holder file changes = map (λ change. change.delta) (filter (is_of holder file) changes)

-- the holder has staged something of the package, and of any package
abbrev pub has_deltas : ℕ → ℕ → List StagedChange → Bool
has_deltas holder file changes = list_any (is_of holder file) changes

abbrev pub has_staged : ℕ → List StagedChange → Bool
has_staged holder changes = list_any (λ change. nat_eq change.holder holder) changes

-- the changes stay but for those of the holder, of the package, that are dropped
abbrev pub stays : ℕ → ℕ → Option Path → StagedChange → Bool
stays holder file dropped change = not (is_of holder file change && is_dropped dropped change.delta)

abbrev pub reverted : ℕ → ℕ → Path → List StagedChange → List StagedChange
reverted holder file path changes = filter (stays holder file (Some path)) changes

-- those of the holder, of the package, go
abbrev pub without : ℕ → ℕ → List StagedChange → List StagedChange
without holder file changes = filter (λ change. not (is_of holder file change)) changes

-- all of the holder go
abbrev pub forgotten : ℕ → List StagedChange → List StagedChange
forgotten holder changes = filter (λ change. not (nat_eq change.holder holder)) changes

-- the text of what holder 0 has staged of the package, but for what is dropped
abbrev pub kept_text : ℕ → Option Path → List StagedChange → List ℕ
kept_text file dropped changes = lines_of (deltas_in 0 file (filter (stays 0 file dropped) changes))
