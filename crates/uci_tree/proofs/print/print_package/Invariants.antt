use Rattle.std.proofs.Common.{◌≡◌, ◌++◌, take}
use Rattle.std.specs.List.{flat_map}
use Rattle.uci_tree.specs.Print.{section_text, header_text}
use Rattle.uci_tree.proofs.print.print_package.Given as goal

abbrev pub invariant-loop-section : goal.invariant-loop-section
invariant-loop-section l = l.out.items ≡ header_text l.header l.«package».name ++ flat_map (section_text l.names) (take l.section-index l.«package».sections)
