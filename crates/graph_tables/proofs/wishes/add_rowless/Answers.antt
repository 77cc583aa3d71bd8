use Rattle.std.proofs.Common.{[], true, false, sym, ap, ◌∙◌}
use Rattle.graph_rules.specs.State.{name_list}
use Rattle.graph_tables.specs.Wished.{wishes_at}
use Rattle.graph_tables.proofs.MoreLemmas.{as_well, none_more}
use Rattle.graph_tables.proofs.RowLemmas.{rowless_mays}
use Rattle.graph_tables.proofs.wishes.add_rowless.Goals as goal

pub returns-then-is_dotted : goal.returns-then-is_dotted
returns-then-is_dotted c =
    none_more c.args.wishes.now.items _ (ap (wishes_at (name_list c.args.names.now)) (rowless_mays [] [] c.args.name.now true (sym c.is_dotted.ensures ∙ c.if-is_dotted.true)))

pub returns : goal.returns
returns c =
    as_well c.add_up.result c.args.wishes.now.items _ _ _
    (ap (wishes_at (name_list c.args.names.now)) (sym (rowless_mays [] [] c.args.name.now false (sym c.is_dotted.ensures ∙ c.if-is_dotted.false))))
    c.add_up.ensures
