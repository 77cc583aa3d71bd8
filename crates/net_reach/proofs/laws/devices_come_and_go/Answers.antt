use Rattle.net_reach.proofs.ComeLemmas.{comes_behind, still_once, gone_again}
use Rattle.net_reach.proofs.laws.devices_come_and_go.Goals as goal

pub returns : goal.returns
returns c = record { comes = comes_behind; once = still_once; back = gone_again }
