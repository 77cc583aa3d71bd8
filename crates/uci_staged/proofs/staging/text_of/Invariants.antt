use Rattle.std.proofs.Common.{◌≡◌, take}
use Rattle.std.specs.Option.{option_copied}
use Rattle.uci_staged.specs.Change.{kept_text}
use Rattle.uci_staged.proofs.staging.text_of.Given as goal

-- the text of the changes so far
abbrev pub invariant-loop-change : goal.invariant-loop-change
invariant-loop-change l = l.text.items ≡ kept_text l.file (option_copied l.dropped) (take l.change-index l.changes)
