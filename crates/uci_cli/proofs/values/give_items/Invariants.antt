use Rattle.std.proofs.Common.{◌≡◌, ◌++◌, take}
use Rattle.std.specs.List.{flat_map}
use Rattle.uci_cli.specs.Values.{item_text}
use Rattle.uci_cli.proofs.values.give_items.Given as goal

abbrev pub invariant-loop-item : goal.invariant-loop-item
invariant-loop-item l = l.out.items ≡ l.initial.out.items ++ flat_map (λ other. l.between ++ item_text other) (take l.item-index l.others)
