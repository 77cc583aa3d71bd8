use Rattle.load_parts.proofs.FurtherLemmas.{are_further, devices_are_there, ports_are_there}
use Rattle.load_parts.proofs.laws.further_names_are_those_that_lack.Goals as goal

pub returns : goal.returns
returns c = record { further = are_further; devices = devices_are_there; ports = ports_are_there }
