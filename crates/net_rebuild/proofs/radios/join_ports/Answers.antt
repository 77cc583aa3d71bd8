use Rattle.std.proofs.Common.{◌≤◌, ℕ, List, Contains, refl, ap, sym, subst, ◌∙◌}
use Rattle.net_rules.specs.declared.event.Event.TheVariants as event
use Rattle.net_rules.specs.Moment.{IsHistory}
use Rattle.graph_rules.specs.State.{State, names_in, claims_in}
use Rattle.net_follow.specs.SettlingState.{held_of}
use Rattle.net_rules.specs.Claims.{claims_of}
use Rattle.net_follow.specs.Beside.{HoldsLower}
use Rattle.net_follow.specs.Counted.{AgreesWith}
use Rattle.net_rebuild.proofs.RadioLemmas.{step_named, looks_named, may_be_ports, ported_agrees, ported_few_claims, radio_history, has_joined}
use Rattle.net_rebuild.proofs.radios.join_ports.Goals as goal

pub take_ports-requires : goal.take_ports-requires
take_ports-requires c = λ now knows.
    let found = c.requires.rebuild in
    may_be_ports c.args.follower.now now c.requires.step c.is_kept.ensures knows.more c.args.made found.0 found.1 found.2 found.3 knows.known

pub begin-requires-clause-rebuild : goal.begin-requires-clause-rebuild
begin-requires-clause-rebuild c =
    let found = c.requires.rebuild in
    (c.args.follower.now, event.Radio found.0 found.1 found.2, found.3, refl)

pub begin-requires-clause-agrees : goal.begin-requires-clause-agrees
begin-requires-clause-agrees c =
    let found = c.requires.rebuild in
    let joined = c.in-Ok.ensures.ok in
    subst (λ (s : State). AgreesWith c.args.made.inputs.inputs s.known) (sym joined.is)
    (ported_agrees c.args.follower.now joined.named c.requires.step c.is_kept.ensures joined.knows.more c.args.made found.0 found.1 found.2 found.3 joined.knows.known)

pub begin-requires-clause-claims : goal.begin-requires-clause-claims
begin-requires-clause-claims c = λ name.
    let found = c.requires.rebuild in
    let joined = c.in-Ok.ensures.ok in
    subst (λ (s : State). claims_in s.known name ≤ claims_of c.args.follower.now.states.list.items name) (sym joined.is)
    (ported_few_claims c.args.follower.now joined.named c.requires.step c.is_kept.ensures joined.knows.more c.args.made found.0 found.1 found.2 found.3 joined.knows.known name)

pub begin-requires-clause-lower : goal.begin-requires-clause-lower
begin-requires-clause-lower c =
    let joined = c.in-Ok.ensures.ok in
    subst HoldsLower (sym joined.is) (step_named c.args.follower.now joined.named c.requires.step c.is_kept.ensures joined.knows.more).ready.lower

pub begin-requires-clause-history : goal.begin-requires-clause-history
begin-requires-clause-history c =
    let found = c.requires.rebuild in
    let joined = c.in-Ok.ensures.ok in
    subst (λ (s : State). IsHistory (record { inputs = c.args.made.inputs.inputs; held = held_of (record c.args.follower.now.settling { graph = s }) })) (sym joined.is)
    (radio_history c.args.follower.now joined.named c.requires.step c.is_kept.ensures joined.knows.more c.args.made found.0 found.1 found.2 found.3 joined.knows.known)

pub returns-clause-ok : goal.returns-clause-ok
returns-clause-ok c = λ radio number ports rebuild.
    let joined = c.in-Ok.ensures.ok in
    has_joined c.args.follower.now joined.named c.requires.step c.is_kept.ensures joined.knows.more c.args.made radio number ports rebuild joined.knows.known
    c.begin.new.follower c.begin.ensures.inputs c.begin.ensures.told
    (c.begin.ensures.held ∙ ap (λ (s : State). held_of (record c.args.follower.now.settling { graph = s })) joined.is)
    (c.begin.ensures.loads ∙ ap (λ (s : State). s.loads) joined.is)

pub returns-in_default-clause-step : goal.returns-in_default-clause-step
returns-in_default-clause-step c = step_named c.args.follower.now c.take_ports.new.graph c.requires.step c.is_kept.ensures c.in_default.ensures.err

pub returns-in_default-clause-err : goal.returns-in_default-clause-err
returns-in_default-clause-err c = looks_named c.args.follower.now c.take_ports.new.graph c.requires.step c.is_kept.ensures c.in_default.ensures.err
