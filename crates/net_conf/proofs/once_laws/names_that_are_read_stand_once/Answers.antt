use Rattle.net_conf.proofs.OnceLemmas.{names_read_once, ports_read_once}
use Rattle.net_conf.proofs.once_laws.names_that_are_read_stand_once.Goals as goal

pub returns : goal.returns
returns c = record { names = names_read_once; ports = ports_read_once }
