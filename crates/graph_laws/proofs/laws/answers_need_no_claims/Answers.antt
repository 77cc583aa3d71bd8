use Rattle.graph_laws.proofs.BelowLemmas.{available_below, link_below, unknown_below}
use Rattle.graph_laws.proofs.laws.answers_need_no_claims.Goals as goal

pub returns : goal.returns
returns c = record { available = available_below; link = link_below; unknown = unknown_below }
