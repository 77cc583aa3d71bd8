use Rattle.known_inputs.proofs.NameLemmas.{few_names, fewer_names}
use Rattle.known_inputs.proofs.laws.names_of_rows_are_few.Goals as goal

pub returns-clause-most : goal.returns-clause-most
returns-clause-most c = few_names

pub returns-clause-fewer : goal.returns-clause-fewer
returns-clause-fewer c = fewer_names
