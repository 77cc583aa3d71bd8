use Rattle.std.proofs.Common.{◌≤◌, refl, ap, sym, subst, ◌∙◌}
use Rattle.net_rules.specs.declared.event.Event.TheVariants as event
use Rattle.net_rules.specs.Moment.{IsHistory}
use Rattle.graph_rules.specs.State.{State, claims_in}
use Rattle.net_follow.specs.SettlingState.{held_of}
use Rattle.net_rules.specs.Claims.{claims_of}
use Rattle.net_follow.specs.Beside.{HoldsLower}
use Rattle.net_follow.specs.Counted.{AgreesWith}
use Rattle.net_follow.specs.InStep.{IsInStep}
use Rattle.net_rebuild.proofs.LoadLemmas.{loaded_agrees, loaded_few_claims, load_history, has_loaded}
use Rattle.net_rebuild.proofs.loads.load.Goals as goal

pub begin-requires-clause-rebuild : goal.begin-requires-clause-rebuild
begin-requires-clause-rebuild c = (c.args.follower.now, event.Load c.args.made.inputs.inputs.conf, c.requires.rebuild, refl)

pub begin-requires-clause-agrees : goal.begin-requires-clause-agrees
begin-requires-clause-agrees c = subst (λ (s : State). AgreesWith c.args.made.inputs.inputs s.known) (sym c.in-Ok.ensures.ok) (loaded_agrees c.args.follower.now c.args.made c.requires.step c.requires.rebuild)

pub begin-requires-clause-claims : goal.begin-requires-clause-claims
begin-requires-clause-claims c = λ name.
    subst (λ (s : State). claims_in s.known name ≤ claims_of c.args.follower.now.states.list.items name) (sym c.in-Ok.ensures.ok)
    (loaded_few_claims c.args.follower.now c.args.made c.requires.step c.requires.rebuild name)

pub begin-requires-clause-lower : goal.begin-requires-clause-lower
begin-requires-clause-lower c = subst HoldsLower (sym c.in-Ok.ensures.ok) c.requires.step.ready.lower

pub begin-requires-clause-history : goal.begin-requires-clause-history
begin-requires-clause-history c =
    subst (λ (s : State). IsHistory (record { inputs = c.args.made.inputs.inputs; held = held_of (record c.args.follower.now.settling { graph = s }) })) (sym c.in-Ok.ensures.ok)
    (load_history c.args.follower.now c.args.made c.requires.step c.requires.rebuild c.requires.sound)

pub returns-clause-ok : goal.returns-clause-ok
returns-clause-ok c =
    has_loaded c.args.follower.now c.args.made c.requires.step c.requires.rebuild c.begin.new.follower c.begin.ensures.inputs c.begin.ensures.told
    (c.begin.ensures.held ∙ ap (λ (s : State). held_of (record c.args.follower.now.settling { graph = s })) c.in-Ok.ensures.ok)
    (c.begin.ensures.loads ∙ ap (λ (s : State). s.loads) c.in-Ok.ensures.ok)

pub returns-in_default-clause-step : goal.returns-in_default-clause-step
returns-in_default-clause-step c = subst (λ (s : State). IsInStep (record c.args.follower.now { settling = record c.args.follower.now.settling { graph = s } })) (sym c.in_default.ensures.err) c.requires.step
