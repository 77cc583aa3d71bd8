use Rattle.std.proofs.Common.{◌∙◌}
use Rattle.net_rebuild.proofs.BeginLemmas.{counted_mid, held_settled, history_settled, step_begun}
use Rattle.net_rebuild.proofs.beginning.begin.Goals as goal

pub refresh_all-requires-clause-counted : goal.refresh_all-requires-clause-counted
refresh_all-requires-clause-counted g c =
    let found = c.requires.rebuild in
    counted_mid c.args.follower.now found.0 c.replace.new.follower found.1 c.args.made c.forget_claims.new.graph found.2 found.3 c.forget_claims.ensures.none c.forget_claims.ensures.stays c.replace.ensures c.requires.agrees

pub returns-clause-step : goal.returns-clause-step
returns-clause-step g c =
    let found = c.requires.rebuild in
    let states = c.refresh_all.new.self in
    let settled = c.refresh_all.new.settling in
    let alone = c.refresh_all.ensures.stays in
    let history = history_settled c.args.follower.now found.0 c.replace.new.follower found.1 c.args.made c.forget_claims.new.graph found.2 found.3 c.forget_claims.ensures.none c.forget_claims.ensures.stays c.replace.ensures settled alone
    c.requires.history in
    step_begun c.args.follower.now found.0 c.replace.new.follower found.1 c.args.made c.forget_claims.new.graph found.2 found.3 c.forget_claims.ensures.none c.forget_claims.ensures.stays c.replace.ensures settled alone
    states c.look.new.settling c.refresh_all.ensures.states
    (c.look.ensures.counted c.replace.new.follower.inputs.inputs states.list.items c.refresh_all.ensures.counted)
    c.look.ensures.held
    (c.look.ensures.ready c.replace.new.follower.inputs.inputs states history c.refresh_all.ensures.states c.refresh_all.ensures.counted)
    c.requires.history

pub returns-clause-held : goal.returns-clause-held
returns-clause-held g c =
    let found = c.requires.rebuild in
    c.look.ensures.held
    ∙ held_settled c.args.follower.now found.0 c.replace.new.follower found.1 c.args.made c.forget_claims.new.graph found.2 found.3 c.forget_claims.ensures.none c.forget_claims.ensures.stays c.replace.ensures
    c.refresh_all.new.settling c.refresh_all.ensures.stays
