use Rattle.std.proofs.Common.{ℕ, ◌≡◌, ◌<◌, length}
use Rattle.graph_objects.specs.Marks.{is_used}
use Rattle.graph_rules.specs.Answers.{used_in}
use Rattle.graph_counts.specs.Counted.{name_of}
use Rattle.graph_tables.proofs.judging.look.Given as goal

-- the marks of the ids so far are set
abbrev pub invariant-loop-id : goal.invariant-loop-id
invariant-loop-id l = record {
  size : length l.used.items ≡ length l.names.names;
  below : (k : ℕ) → k < l.id → is_used l.used.items k ≡ used_in l.names (name_of l.names k);
}
