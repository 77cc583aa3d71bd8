use Rattle.std.proofs.Common.{◌+◌, arith}
use Rattle.ubus_frames.proofs.FieldLemmas.{padded_least}
use Rattle.ubus_frames.proofs.SizeLemmas.{field_most}
use Rattle.ubus_frames.proofs.fits.field_size.Goals as goal

pub returns-then-size : goal.returns-then-size
returns-then-size c = omega (arith, padded_least (4 + c.args.size))

pub returns : goal.returns
returns c = (c.padded_size.ensures, omega (arith, c.padded_size.ensures, field_most c.args.size (omega arith)))
