use Rattle.std.proofs.Common.{◌≡◌, length}
use Rattle.plane_words.specs.Pattern.{fits, fits_later}
use Rattle.rpc_session.proofs.pattern.fits_later.Given as goal

abbrev pub invariant-loop-rest : goal.invariant-loop-rest
invariant-loop-rest l = fits_later (fits l.fn.pattern) l.fn.text ≡ fits_later (fits l.tail) l.ending

abbrev pub decreases-loop-rest : goal.decreases-loop-rest
decreases-loop-rest l = length l.tail
