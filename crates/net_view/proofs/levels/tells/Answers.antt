use Rattle.std.proofs.Common.{Bool, ap, ◌∙◌}
use Rattle.std.specs.Prelude.{◌&&◌, nat_lt}
use Rattle.net_rules.specs.Inputs.{facts_of}
use Rattle.net_view.proofs.LevelLemmas.{told_by_row, told_by_none}
use Rattle.net_view.proofs.levels.tells.Goals as goal

pub returns-in-Some : goal.returns-in-Some
returns-in-Some c = told_by_row (facts_of c.args.inputs.now) c.args.told.now c.args.ports.now.index.names c.args.name.now c.in-Some.place.now c.deref.result.now c.answer_at.result c.requires.told c.requires.ports.index.names
    c.in-Some.ensures.value c.deref.ensures.value c.answer_at.ensures

pub returns-in-None : goal.returns-in-None
returns-in-None c =
    ap (λ (b : Bool). nat_lt 0 c.args.told.now.levels && b) c.tells_without_row-is_told.ensures
    ∙ told_by_none (facts_of c.args.inputs.now) c.args.told.now c.args.ports.now.index.names c.args.name.now c.requires.ports.index.names c.in-None.ensures.value
