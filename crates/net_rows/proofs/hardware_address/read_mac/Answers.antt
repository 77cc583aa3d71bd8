use Rattle.std.proofs.Common.{length, refl}
use Rattle.std.proofs.lemmas.Bool.{ne_eqb}
use Rattle.net_rows.proofs.hardware_address.read_mac.Goals as goal

pub returns-then-text-ne17 : goal.returns-then-text-ne17
returns-then-text-ne17 c = rw (ne_eqb (length c.args.text.now) 17 c.if-text-ne17.true) refl
