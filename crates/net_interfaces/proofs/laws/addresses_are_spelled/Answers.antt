use Rattle.net_interfaces.proofs.AddressLemmas.{found_is_spelled, found_is_wide, spelled_is_found}
use Rattle.net_interfaces.proofs.laws.addresses_are_spelled.Goals as goal

pub returns-clause-found : goal.returns-clause-found
returns-clause-found c = found_is_spelled

pub returns-clause-family : goal.returns-clause-family
returns-clause-family c = found_is_wide

pub returns-clause-only : goal.returns-clause-only
returns-clause-only c = spelled_is_found
