use Rattle.std.proofs.Common.{◌≡◌, drop}
use Rattle.uci_store.specs.Store.{names_of}
use Rattle.uci_tool.specs.Folder.{folder_of}
use Rattle.uci_tool.specs.Texts.{each, listed}
use Rattle.uci_tool.proofs.ListLemmas.{in_front}
use Rattle.uci_tool.proofs.texts.list_each.Given as goal

-- what was printed, and what the packages from here on will add
abbrev pub invariant-loop-name : goal.invariant-loop-name
invariant-loop-name l = in_front l.output.items (each (listed l.listing l.options (folder_of l.store)) (drop l.name-index (names_of l.store))) ≡ each (listed l.listing l.options (folder_of l.store)) (names_of l.store)
