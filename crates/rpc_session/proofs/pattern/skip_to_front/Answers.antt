use Rattle.std.proofs.Common.{arith, refl}
use Rattle.rpc_session.proofs.PatternLemmas.{fits_there, skip_star}
use Rattle.rpc_session.proofs.pattern.skip_to_front.Goals as goal

pub returns-in-Fits-clause-fits : goal.returns-in-Fits-clause-fits
returns-in-Fits-clause-fits c same = fits_there c.args.pattern.now c.args.text.now c.loop-rest.ending.now c.loop-rest.invariant (c.in-Fits.ensures.fits refl)

pub returns-in-Star-clause-star : goal.returns-in-Star-clause-star
returns-in-Star-clause-star c rest left same =
    let found = skip_star c.args.pattern.now c.args.text.now c.loop-rest.ending.now c.in-Star.rest.now c.in-Star.left.now c.loop-rest.invariant (c.in-Star.ensures.star c.in-Star.rest c.in-Star.left refl) in
    grind (arith, found, same)
