use Rattle.std.proofs.Common.{ap, ◌∙◌}
use Rattle.net_rows.specs.declared.rows.Conf.{Conf}
use Rattle.net_refused.proofs.LookLemmas.{row_by_place, no_row}
use Rattle.net_refused.proofs.devices.row_of.Goals as goal

pub returns-in-Some : goal.returns-in-Some
returns-in-Some c =
    row_by_place c.args.inputs.now.inputs.conf.names c.args.name.now c.in-Some.place c.as_slice.result.now c.get.result
    (c.in-Some.ensures c.args.inputs.now.inputs c.requires) (c.as_slice.ensures ∙ ap (λ (z : Conf). z.names) c.conf.ensures.rows) c.get.ensures.lookup

pub returns-in-None : goal.returns-in-None
returns-in-None c = no_row c.args.inputs.now.inputs.conf.names c.args.name.now (c.in-None.ensures c.args.inputs.now.inputs c.requires)
