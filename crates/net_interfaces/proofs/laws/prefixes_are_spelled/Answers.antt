use Rattle.net_interfaces.proofs.PrefixSpellingLemmas.{found_prefix, prefix_is_wide, spelled_prefix}
use Rattle.net_interfaces.proofs.laws.prefixes_are_spelled.Goals as goal

pub returns-clause-found : goal.returns-clause-found
returns-clause-found c = found_prefix

pub returns-clause-family : goal.returns-clause-family
returns-clause-family c = prefix_is_wide

pub returns-clause-only : goal.returns-clause-only
returns-clause-only c = spelled_prefix
