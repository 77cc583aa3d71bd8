use Rattle.std.proofs.Common.{◌∙◌}
use Rattle.net_rules.specs.Inputs.{facts_of}
use Rattle.net_view.proofs.LevelLemmas.{tells_available}
use Rattle.net_view.proofs.levels.Levels.is_available.Goals as goal

pub returns : goal.returns
returns c = c.tells.ensures ∙ tells_available (facts_of c.args.inputs.now) c.args.self.now.available c.args.name.now c.requires.available
