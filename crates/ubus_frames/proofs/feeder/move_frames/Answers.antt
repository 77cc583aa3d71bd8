use Rattle.ubus_frames.proofs.StreamLemmas.{moves_from}
use Rattle.ubus_frames.proofs.feeder.move_frames.Goals as goal

pub returns-in-Ok-clause-moved : goal.returns-in-Ok-clause-moved
returns-in-Ok-clause-moved c = moves_from _ _ _ _ _ _ c.in-Ok.ensures.found c.as_slice.ensures.value c.remove_front.ensures
