use Rattle.touch_laws.proofs.DeviceLemmas.{stays_as, follows, same_walk}
use Rattle.touch_laws.proofs.laws.devices_touch_the_places_above.Goals as goal

pub returns : goal.returns
returns c = record {
  stay = λ inputs what places row are. stays_as inputs what places are row;
  follow = λ inputs what places reached are. follows inputs what places are reached;
  found = same_walk;
}
