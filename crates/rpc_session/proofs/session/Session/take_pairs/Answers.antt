use Rattle.std.proofs.Common.{rules, ap, ◌∙◌}
use Rattle.std.specs.Prelude.{filter, not}
use Rattle.std.proofs.lemmas.Fn.{filter_same}
use Rattle.rpc_session.specs.declared.grant.Grant.{Grant}
use Rattle.rpc_session.specs.Objects.{is_told}
use Rattle.rpc_session.proofs.session.Session.take_pairs.Goals as goal

pub returns : goal.returns
returns c =
    let kept = filter_same _ _ _ (λ x b f' k. search rules) _ _ c.retain.ensures.filtered in
    ap (λ grants. record c.args.self.now { grants = grants }) (c.from_vec.ensures ∙ kept ∙ ap (filter (λ (held : Grant). not (is_told c.args.scope.now c.args.items.now held))) (c.into_vec-grants.ensures ∙ c.replace.ensures.value))
