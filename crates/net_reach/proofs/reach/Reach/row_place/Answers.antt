use Rattle.std.proofs.Common.{◌∙◌}
use Rattle.net_reach.proofs.reach.Reach.row_place.Goals as goal

pub returns : goal.returns
returns c = λ inputs is. c.place_of_name.ensures ∙ is.rows c.args.name.now
