use Rattle.std.proofs.Common.{ℕ, ◌<◌, ◌^◌, Some, ap, subst, sym, ◌∙◌}
use Rattle.rpc_session.proofs.NameLemmas.{is_create}
use Rattle.rpc_session.proofs.sessions.Sessions.serve.Goals as goal

pub serve_create-requires : goal.serve_create-requires
serve_create-requires c =
    let named = is_create c.args.method.now c.of.result c.of.ensures (c.in-Some-Create.is ∙ ap Some c.in-Some-Create.field-0-is) in
    subst (λ (n : ℕ). n < 2 ^ 63) (sym c.renew.ensures.next) (c.requires named)
