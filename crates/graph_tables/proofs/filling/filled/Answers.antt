use Rattle.std.proofs.Common.{sym, subst, ap, ◌∙◌}
use Rattle.graph_objects.specs.Marks.{Marks}
use Rattle.graph_tables.specs.Lists.{HaveSame}
use Rattle.graph_tables.proofs.filling.filled.Goals as goal

pub expect_all-requires-clause-none : goal.expect_all-requires-clause-none
expect_all-requires-clause-none c = ap (λ (m : Marks). m.wishes) c.new-objects.ensures

pub keep_all-requires : goal.keep_all-requires
keep_all-requires c = c.in_ok-expect_all.ensures.held ∙ ap (λ (m : Marks). m.held) c.new-objects.ensures

pub returns-clause-wishes : goal.returns-clause-wishes
returns-clause-wishes c = subst (λ ws. HaveSame ws c.args.wishes.now) (sym c.in_ok-keep_all.ensures.wishes) c.in_ok-expect_all.ensures.ok
