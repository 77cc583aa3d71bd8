use Rattle.std.proofs.Common.{◌-◌, ◌≡◌}
use Rattle.use_counts.specs.MarksInside.{IsNarrow}
use Rattle.use_counts.proofs.marks.Marks.first.Given as goal

abbrev pub invariant-loop-self : goal.invariant-loop-self
invariant-loop-self l =
    record {
      same : l.self-inside.words ≡ l.initial.self-inside.words;
      narrow : IsNarrow l.self-inside.words.items l.self-inside.low l.self-inside.high;
    }

abbrev pub decreases-loop-self : goal.decreases-loop-self
decreases-loop-self l = l.self-inside.high - l.self-inside.low
