use Rattle.std.proofs.Common.{◌≡◌, ◌++◌, take}
use Rattle.std.specs.List.{flat_map}
use Rattle.uci_text.specs.Quote.{quoted}
use Rattle.uci_cli.proofs.values.show_items.Given as goal

abbrev pub invariant-loop-item : goal.invariant-loop-item
invariant-loop-item l = l.out.items ≡ l.initial.out.items ++ flat_map (λ other. l.between ++ quoted other) (take l.item-index l.others)
