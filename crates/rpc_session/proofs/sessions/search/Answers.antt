use Rattle.std.proofs.Common.{rules}
use Rattle.std.proofs.lemmas.List.Sorted.{answers_always}
use Rattle.rpc_session.proofs.SessionListLemmas.{searched}
use Rattle.rpc_session.proofs.sessions.search.Goals as goal

pub returns : goal.returns
returns c =
    let facts = c.binary_search_by_key.ensures in
    let by_key = facts.position (λ session. session.id) (answers_always _ _ _ (λ f a r g called. search rules)) in
    searched _ c.requires c.args.sid _ facts.bound by_key
