use Rattle.std.proofs.Common.{◌∙◌}
use Rattle.net_rules.specs.Inputs.{facts_of}
use Rattle.net_view.proofs.LevelLemmas.{tells_link}
use Rattle.net_view.proofs.levels.Levels.has_link.Goals as goal

pub returns : goal.returns
returns c = c.tells.ensures ∙ tells_link (facts_of c.args.inputs.now) c.args.self.now.link c.args.name.now c.requires.link
