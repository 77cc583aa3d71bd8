-- What an event leads to.
use Rattle.std.proofs.Common.{ℕ, ◌≡◌, List, ap, sym, subst, ◌∙◌}
use Rattle.kern_model.specs.ObjectOrder.{Objects}
use Rattle.net_rules.specs.declared.inputs.Inputs.{Inputs}
use Rattle.net_rules.specs.declared.event.Event.{Event}
use Rattle.net_rules.specs.After.{changed, after}
use Rattle.net_rules.specs.Moment.{Moment, MayCome, held_after, moment_after, IsHistory}
use Rattle.net_rules.specs.Notices.{notices}
use Rattle.net_rules.specs.Touched.{asked_of}
use Rattle.touch_laws.specs.Staying.{told_of, FollowTouched}
use Rattle.known_inputs.specs.Known.{Known}
use Rattle.state_requests.specs.SettlingState.{held_of, IsReady}
use Rattle.asked_places.specs.Touched.{is_touched}
use Rattle.state_requests.specs.Kept.{AreStatesOf}
use Rattle.state_requests.specs.Counted.{IsCountedBy}
use Rattle.net_follow.specs.declared.follower.Follower.{Follower}
use Rattle.net_follow.specs.InStep.{inputs_of, touched_by, HasRoom, IsInStep, HasFollowed}

abbrev pub moment_of : Inputs → Objects → Moment
moment_of inputs held = record { inputs = inputs; held = held }

abbrev moment_with : Objects → Inputs → Moment
moment_with held inputs = record { inputs = inputs; held = held }

pub same_moment : {i j : Inputs} {h k : Objects} → i ≡ j → h ≡ k → moment_of i h ≡ moment_of j k
same_moment {i} {j} {h} {k} inputs held = ap (moment_with h) inputs ∙ ap (moment_of j) held

-- a history leads to the next moment
pub history_next : (inputs : Inputs) (held : Objects) (event : Event) (now : Inputs) (next : Objects) → IsHistory (moment_of inputs held) → MayCome (moment_of inputs held) event → now ≡ after inputs event → next ≡ held_after held event
    → IsHistory (moment_of now next)
history_next inputs held event now next history may is left =
    let there : moment_of now next ≡ moment_after (moment_of inputs held) event = same_moment is left in
    subst IsHistory (sym there) (IsHistory.came (moment_of inputs held) event history may)

-- the parts of a network that followed an event
pub record HasCome (event : Event) (before now : Follower) : Type 0 where
  pub inputs : inputs_of now ≡ after (inputs_of before) event
  pub told : now.notices.items ≡ notices (inputs_of before) event
  pub held : held_of now.settling ≡ held_after (held_of before.settling) event
  pub loads : now.settling.graph.loads ≡ before.settling.graph.loads
  pub states : AreStatesOf (inputs_of now) now.states
  pub counted : IsCountedBy (inputs_of now) now.states.list.items now.settling
  pub ready : IsHistory (moment_of (inputs_of now) (held_of now.settling)) → IsReady now.settling
  pub room : HasRoom now

module _ (event : Event) (before now : Follower) (come : HasCome event before now) where
  pub followed_now : HasFollowed event before now
  followed_now = record { inputs = come.inputs; held = come.held; told = come.told; loads = come.loads }

  pub step_now : IsHistory (moment_of (inputs_of before) (held_of before.settling)) → MayCome (moment_of (inputs_of before) (held_of before.settling)) event → IsInStep now
  step_now history may =
      let then : IsHistory (moment_of (inputs_of now) (held_of now.settling)) = history_next (inputs_of before) (held_of before.settling) event (inputs_of now) (held_of now.settling) history may come.inputs come.held in
      record { history = then; states = come.states; counted = come.counted; ready = come.ready then; room = come.room }

-- ---- where touched interfaces follow

module _ (inputs : Inputs) (event : Event) (places : List ℕ) (middle : Follower) (is : inputs_of middle ≡ changed inputs event) (are : middle.touched.items ≡ places)
    (follows : FollowTouched inputs event (is_touched (changed inputs event).conf.interfaces places)) where
  pub asked_after : asked_of (touched_by middle) (inputs_of middle) ≡ after inputs event
  asked_after =
      ap (λ (x : Inputs). asked_of (is_touched x.conf.interfaces middle.touched.items) x) is
      ∙ ap (λ (ps : List ℕ). asked_of (is_touched (changed inputs event).conf.interfaces ps) (changed inputs event)) are
      ∙ sym follows.follow

  pub told_after : told_of (touched_by middle) (inputs_of middle) ≡ notices inputs event
  told_after =
      ap (λ (x : Inputs). told_of (is_touched x.conf.interfaces middle.touched.items) x) is
      ∙ ap (λ (ps : List ℕ). told_of (is_touched (changed inputs event).conf.interfaces ps) (changed inputs event)) are
      ∙ sym follows.told

  -- the inputs that are known then
  pub known_after : (known : Known) → known ≡ record middle.inputs { inputs = asked_of (touched_by middle) (inputs_of middle) } → known.inputs ≡ after inputs event
  known_after known k = ap (λ (x : Known). x.inputs) k ∙ asked_after

-- and all that holds then
module _ (event : Event) (before middle last : Follower) (places : List ℕ) (is : inputs_of middle ≡ changed (inputs_of before) event) (are : middle.touched.items ≡ places)
    (follows : FollowTouched (inputs_of before) event (is_touched (changed (inputs_of before) event).conf.interfaces places)) where
  pub come_by : last.inputs ≡ record middle.inputs { inputs = asked_of (touched_by middle) (inputs_of middle) } → last.notices.items ≡ told_of (touched_by middle) (inputs_of middle) → AreStatesOf (inputs_of last) last.states
      → IsCountedBy (inputs_of last) last.states.list.items last.settling
      → held_of last.settling ≡ held_of middle.settling → last.settling.graph.loads ≡ middle.settling.graph.loads → (IsHistory (moment_of (inputs_of last) (held_of last.settling)) → IsReady last.settling) → HasRoom last
      → held_of middle.settling ≡ held_after (held_of before.settling) event → middle.settling.graph.loads ≡ before.settling.graph.loads → HasCome event before last
  come_by inputs told states counted held loads ready room was_held were_loads = record {
    inputs = known_after (inputs_of before) event places middle is are follows last.inputs inputs;
    told = told ∙ told_after (inputs_of before) event places middle is are follows;
    held = held ∙ was_held;
    loads = loads ∙ were_loads;
    states = states;
    counted = counted;
    ready = ready;
    room = room;
  }

-- rows stay
pub conf_after : (middle now : Known) (asked : Inputs) → now ≡ record middle { inputs = asked } → asked.conf ≡ middle.inputs.conf → now.inputs.conf ≡ middle.inputs.conf
conf_after middle now asked is same = ap (λ (x : Known). x.inputs.conf) is ∙ same
