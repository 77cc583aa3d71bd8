use Rattle.std.proofs.Common.{◌≡◌, Some, None, subst, rules}
use Rattle.rpc_rules.specs.Arguments.{config_in, holder_of}
use Rattle.rpc_uci.specs.Staging.{IsStageable}
use Rattle.rpc_uci.proofs.StagingLemmas.{plan_stageable, edit_is_unnamed}
use Rattle.rpc_uci.proofs.staging.stage_edit.Goals as goal

pub stage_all-requires-clause-fits : goal.stage_all-requires-clause-fits
stage_all-requires-clause-fits g c =
    let named : config_in c.args.args.now ≡ Some c.in-Some.name.now = search rules in
    let items : c.in-Ok.plan.deltas ≡ c.into_vec.result.items = search rules in
    subst (IsStageable c.args.store.now c.holder-holder.result c.in-Some.name.now) items
    (plan_stageable c.args.edit c.args.store.now c.holder-holder.result c.args.args.now c.in-Ok.plan c.in-Some.name.now named c.in-Ok.ensures.planned)

pub returns-in_default-clause-done : goal.returns-in_default-clause-done
returns-in_default-clause-done g c =
    let unnamed : config_in c.args.args.now ≡ None = search rules in
    edit_is_unnamed c.args.edit (holder_of c.args.caller) c.args.args.now c.args.store.now unnamed
