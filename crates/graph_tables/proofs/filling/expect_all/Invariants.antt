use Rattle.std.proofs.Common.{◌≡◌, take}
use Rattle.graph_tables.specs.Lists.{HaveSame}
use Rattle.graph_tables.proofs.filling.expect_all.Given as goal

-- the wishes so far are expected
abbrev pub invariant-loop-wish : goal.invariant-loop-wish
invariant-loop-wish l = record {
  held : l.objects.held ≡ l.fn.objects.held;
  same : HaveSame l.objects.wishes (take l.wish-index l.wishes);
}
