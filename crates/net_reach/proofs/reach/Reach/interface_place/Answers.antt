use Rattle.std.proofs.Common.{◌∙◌}
use Rattle.net_reach.proofs.reach.Reach.interface_place.Goals as goal

pub returns : goal.returns
returns c = λ inputs is. c.place_of_text.ensures ∙ is.interfaces c.args.name.now
