use Rattle.graph_rules.proofs.WantLemmas.{objects_same, wants_same}
use Rattle.graph_rules.proofs.laws.wishes_are_those_of_the_rules.Goals as goal

pub returns-clause-name : goal.returns-clause-name
returns-clause-name c = objects_same

pub returns-clause-all : goal.returns-clause-all
returns-clause-all c = wants_same
