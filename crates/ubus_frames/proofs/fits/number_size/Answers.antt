use Rattle.std.proofs.Common.{arith}
use Rattle.ubus_frames.proofs.SizeLemmas.{number_eight}
use Rattle.ubus_frames.proofs.fits.number_size.Goals as goal

pub returns-in-Some : goal.returns-in-Some
returns-in-Some c = (number_eight _ _ c.in-Some.is, omega arith)
