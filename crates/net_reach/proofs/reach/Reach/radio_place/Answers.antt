use Rattle.std.proofs.Common.{◌∙◌}
use Rattle.net_reach.proofs.reach.Reach.radio_place.Goals as goal

pub returns : goal.returns
returns c = λ inputs is. c.place_of_text.ensures ∙ is.radios c.args.name.now
