use Rattle.std.proofs.Common.{◌≡◌, ◌∷◌, ◌++◌, take}
use Rattle.std.specs.List.{flat_map}
use Rattle.uci_tree.specs.Print.{head_text, option_text}
use Rattle.uci_tree.proofs.print.print_section.Given as goal

abbrev pub invariant-loop-option : goal.invariant-loop-option
invariant-loop-option l = l.out.items ≡ l.fn.out.items ++ 10 ∷ head_text l.names l.section ++ flat_map option_text (take l.option-index l.section.options)
