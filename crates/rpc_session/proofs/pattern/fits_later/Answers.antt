use Rattle.std.proofs.Common.{refl}
use Rattle.rpc_session.proofs.pattern.fits_later.Goals as goal

pub loop-rest-smaller : goal.loop-rest-smaller
loop-rest-smaller c = (c.in-Star.ensures.star c.in-Star.rest c.in-Star.left refl).shorter
