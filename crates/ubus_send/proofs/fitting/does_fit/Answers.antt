use Rattle.ubus_send.proofs.FitsLemmas.{same_test}
use Rattle.ubus_send.proofs.fitting.does_fit.Goals as goal

pub returns : goal.returns
returns c = same_test c.frame_fits.result c.args.frame.now c.frame_fits.ensures.fits c.frame_fits.ensures.unfit
