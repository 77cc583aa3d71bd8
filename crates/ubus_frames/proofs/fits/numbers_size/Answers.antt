use Rattle.ubus_frames.specs.Written.{numbers_bytes}
use Rattle.ubus_frames.proofs.SizeLemmas.{part_sized, numbers_length}
use Rattle.ubus_frames.proofs.fits.numbers_size.Goals as goal

pub returns-in-Some : goal.returns-in-Some
returns-in-Some c = part_sized (λ x. Unit) numbers_bytes _ _ _ _ _ c.in-Some.is tt (numbers_length _ _ c.len.ensures) c.saturating_mul.ensures c.field_size.ensures
