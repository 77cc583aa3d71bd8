use Rattle.use_counts.specs.Rows.{joined}
use Rattle.use_counts.proofs.JoinLemmas.{edges_joined}
use Rattle.use_counts.proofs.RowLemmas.{available_row, link_row, used_row, users_row}
use Rattle.use_counts.proofs.laws.edges_are_of_the_rows.Goals as goal

pub returns-clause-available : goal.returns-clause-available
returns-clause-available c = λ rows net r. available_row (joined net.ports rows) net (edges_joined rows net r)

pub returns-clause-link : goal.returns-clause-link
returns-clause-link c = λ rows net r. link_row (joined net.ports rows) net (edges_joined rows net r)

pub returns-clause-used : goal.returns-clause-used
returns-clause-used c = λ rows net r. used_row (joined net.ports rows) net (edges_joined rows net r)

pub returns-clause-users : goal.returns-clause-users
returns-clause-users c = λ rows net r. users_row (joined net.ports rows) net (edges_joined rows net r)
