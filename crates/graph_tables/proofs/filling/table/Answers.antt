use Rattle.std.proofs.Common.{IfOk, sym, subst, ◌∙◌}
use Rattle.graph_objects.specs.Marks.{Marks}
use Rattle.graph_rules.specs.State.{Known, name_list}
use Rattle.graph_tables.specs.Wished.{known}
use Rattle.graph_tables.specs.Lists.{AreApart, HaveSame}
use Rattle.graph_tables.proofs.StandLemmas.{mays_stand}
use Rattle.graph_tables.proofs.filling.table.Goals as goal

pub filled-requires : goal.filled-requires
filled-requires c =
    let names = name_list c.args.names.now in
    let s : Known = known c.args.rows.now c.args.vlans.now c.args.names.now c.args.radio.now in
    subst AreApart (sym (c.as_slice.ensures.value ∙ c.in_ok-wishes.ensures)) (mays_stand s names c.requires)

pub returns-clause-wishes : goal.returns-clause-wishes
returns-clause-wishes c = subst (λ ws. IfOk c.filled.result (λ (objects : Marks). HaveSame objects.wishes ws)) (c.as_slice.ensures.value ∙ c.in_ok-wishes.ensures) c.filled.ensures.wishes
