use Rattle.ubus_send.proofs.FitsLemmas.{fits_to, unfit_to}
use Rattle.ubus_send.proofs.fitting.fits_tells.Goals as goal

pub returns : goal.returns
returns c = record { fit = fits_to; unfit = unfit_to }
