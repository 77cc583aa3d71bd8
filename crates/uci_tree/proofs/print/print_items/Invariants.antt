use Rattle.std.proofs.Common.{◌≡◌, ◌++◌, codes, take}
use Rattle.std.specs.List.{flat_map}
use Rattle.uci_tree.specs.Print.{option_line}
use Rattle.uci_tree.proofs.print.print_items.Given as goal

abbrev pub invariant-loop-item : goal.invariant-loop-item
invariant-loop-item l = l.out.items ≡ l.fn.out.items ++ flat_map (option_line (codes "list") l.name) (take l.item-index l.items)
