use Rattle.settling_laws.proofs.QuietLemmas.{quiet_more, quiet_less, quiet_left}
use Rattle.settling_laws.proofs.laws.gifts_stay_quiet.Goals as goal

pub returns : goal.returns
returns c = record { more = quiet_more; less = quiet_less; left = quiet_left }
