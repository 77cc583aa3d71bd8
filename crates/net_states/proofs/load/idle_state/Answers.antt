use Rattle.std.proofs.Common.{false, None, refl, ap, ◌∙◌}
use Rattle.net_rules.specs.declared.inputs.Inputs.{Inputs}
use Rattle.net_view.specs.Places.{is_place}
use Rattle.net_states.proofs.LoadLemmas.{first_by_place, noted_idle}
use Rattle.net_states.proofs.load.idle_state.Goals as goal

pub returns : goal.returns
returns c =
    let inputs : Inputs = c.args.inputs.now in
    let first =
    c.is_first-is_first.ensures
    ∙ ap (is_place c.args.place) (c.requires.ports.index.interfaces c.args.row.now.name)
    ∙ first_by_place inputs.conf.interfaces c.args.place c.args.row.now c.requires.at in
    noted_idle inputs c.args.place c.args.row.now
    (record { is_first = c.is_first-is_first.result; device = c.device_of.result; l3_device = None; is_claimed = false; is_up = false; number = c.number_of.result })
    first c.device_of.ensures c.number_of.ensures refl refl
