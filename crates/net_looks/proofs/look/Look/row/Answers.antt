use Rattle.std.proofs.Common.{ap, sym, ◌∙◌}
use Rattle.net_rows.specs.declared.rows.NameRow.{NameRow}
use Rattle.net_rows.specs.declared.rows.Conf.{Conf}
use Rattle.net_looks.proofs.LookLemmas.{by_place, by_no_place}
use Rattle.net_looks.proofs.look.Look.row.Goals as goal

pub returns-in-Some : goal.returns-in-Some
returns-in-Some c = by_place (λ (row : NameRow). row.name) c.args.self.now.inputs.now.inputs.conf.names c.args.name.now c.in-Some.place c.as_slice.result.now c.get.result
    (sym (c.row_place.ensures c.args.self.now.inputs.now.inputs c.requires.reaches) ∙ c.in-Some.is) (c.as_slice.ensures ∙ ap (λ (conf : Conf). conf.names) c.conf.ensures.rows) c.get.ensures.lookup

pub returns-in-None : goal.returns-in-None
returns-in-None c = by_no_place (λ (row : NameRow). row.name) c.args.self.now.inputs.now.inputs.conf.names c.args.name.now (sym (c.row_place.ensures c.args.self.now.inputs.now.inputs c.requires.reaches) ∙ c.in-None.is)
