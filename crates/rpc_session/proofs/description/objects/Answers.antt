use Rattle.std.proofs.Common.{List, ℕ, map, ap, ◌∙◌}
use Rattle.std.specs.Prelude.{filter}
use Rattle.rpc_session.specs.declared.grant.Grant.{Grant}
use Rattle.rpc_session.specs.Grant.{same_text}
use Rattle.rpc_session.proofs.OrderLemmas.{puts, puts_all}
use Rattle.rpc_session.proofs.description.objects.Goals as goal

pub loop-grant-init : goal.loop-grant-init
loop-grant-init c =
    let texts : List (List ℕ) = map (λ (grant : Grant). grant.object) (filter (λ (grant : Grant). same_text grant.scope c.args.scope.now) c.args.grants.now) in
    ap (λ (z : List (List ℕ)). puts z texts) c.new-objects.ensures.empty ∙ puts_all texts
