-- What `uci changes` prints.
use Rattle.std.specs.Prelude.{ℕ, List, [], ◌∷◌, ◌++◌}
use Rattle.std.specs.List.{flat_map, AllByRecursion}
use Rattle.uci_text.specs.Byte.{newline}
use Rattle.uci_delta.specs.declared.delta.Delta.{Delta}
use Rattle.uci_delta.specs.Print.{shown}
use Rattle.uci_delta.specs.Shape.{HasShape}

-- a line for each delta
abbrev pub change_lines : List Delta → List ℕ
change_lines deltas = flat_map (λ delta. shown delta ++ newline ∷ []) deltas

-- each of them is a change of a section or of an option
abbrev pub HaveShape : List Delta → Type 0
HaveShape deltas = AllByRecursion HasShape deltas
