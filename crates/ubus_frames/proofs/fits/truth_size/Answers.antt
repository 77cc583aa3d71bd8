use Rattle.std.proofs.Common.{arith}
use Rattle.ubus_frames.proofs.SizeLemmas.{truth_eight}
use Rattle.ubus_frames.proofs.fits.truth_size.Goals as goal

pub returns-in-Some : goal.returns-in-Some
returns-in-Some c = (truth_eight _ _ c.in-Some.is, omega arith)
