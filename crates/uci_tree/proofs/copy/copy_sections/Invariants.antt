use Rattle.std.proofs.Common.{◌≡◌, take}
use Rattle.uci_tree.proofs.copy.copy_sections.Given as goal

abbrev pub invariant-loop-section : goal.invariant-loop-section
invariant-loop-section l = l.copies ≡ take l.section-index l.sections
