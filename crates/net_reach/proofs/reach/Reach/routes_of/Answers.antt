use Rattle.std.proofs.Common.{map, ap, slice_get, ◌∙◌}
use Rattle.net_reach.proofs.reach.Reach.routes_of.Goals as goal

pub returns : goal.returns
returns c = λ inputs is. ap (map (slice_get inputs.conf.routes)) c.places_of_text.ensures ∙ is.routes c.args.interface.now
