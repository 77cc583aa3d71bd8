use Rattle.std.proofs.Common.{◌≡◌, ◌∷◌, ◌++◌, take}
use Rattle.std.specs.List.{flat_map}
use Rattle.uci_cli.specs.Show.{option_line}
use Rattle.uci_cli.proofs.show.show_lines.Given as goal

abbrev pub invariant-loop-option : goal.invariant-loop-option
invariant-loop-option l = l.out.items ≡ l.fn.out.items ++ (l.path ++ 61 ∷ l.section.kind ++ 10 ∷ flat_map (option_line l.between l.path) (take l.option-index l.section.options))
