use Rattle.std.proofs.Common.{◌*◌}
use Rattle.graph_objects.specs.Bits.{NoneBetween}
use Rattle.graph_objects.proofs.bits.Bits.first_from_word.Given as goal

-- the words so far have no bit
abbrev pub invariant-loop-index : goal.invariant-loop-index
invariant-loop-index l = NoneBetween l.self-inside.words.items (64 * l.start) (64 * l.index)
