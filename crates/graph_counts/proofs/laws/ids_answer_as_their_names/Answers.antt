use Rattle.std.proofs.Common.{◌∙◌}
use Rattle.use_counts.specs.Rows.{joined}
use Rattle.use_counts.proofs.JoinLemmas.{edges_joined}
use Rattle.use_counts.proofs.RowLemmas.{available_row, link_row, used_row, users_row}
use Rattle.graph_counts.proofs.CountLemmas.{available_alike, link_alike, used_alike, users_alike}
use Rattle.graph_counts.proofs.laws.ids_answer_as_their_names.Goals as goal

pub returns-clause-available : goal.returns-clause-available
returns-clause-available c = λ s net h t id within. available_row (joined net.ports t.rows) net (edges_joined t.rows net t.are) id ∙ available_alike s net h t id within

pub returns-clause-link : goal.returns-clause-link
returns-clause-link c = λ s net h t id within. link_row (joined net.ports t.rows) net (edges_joined t.rows net t.are) id ∙ link_alike s net h t id within

pub returns-clause-used : goal.returns-clause-used
returns-clause-used c = λ s net h t id within. used_row (joined net.ports t.rows) net (edges_joined t.rows net t.are) id ∙ used_alike s net h t id within

pub returns-clause-users : goal.returns-clause-users
returns-clause-users c = λ s net h t id within. users_row (joined net.ports t.rows) net (edges_joined t.rows net t.are) id ∙ users_alike s net h t id within
