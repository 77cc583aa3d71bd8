-- A further plain name in the graph leaves all in step.
use Rattle.std.proofs.Common.{inl, inr, ℕ, ◌≡◌, ◌⊎◌, List, None, vec_capacity, refl, ap, sym, subst, ◌∙◌}
use Rattle.std.specs.VecDeque.{deque_capacity}
use Rattle.net_rules.specs.declared.inputs.Inputs.{Inputs}
use Rattle.net_rules.specs.Inputs.{facts_of}
use Rattle.net_rules.specs.Moment.{IsHistory}
use Rattle.net_rules.proofs.HistoryLemmas.{orderly}
use Rattle.graph_rules.specs.State.{State, place_among}
use Rattle.graph_rules.specs.After.{added_after}
use Rattle.graph_tables.specs.Whole.{IsWhole}
use Rattle.state_requests.specs.SettlingState.{SettlingState, held_of, IsReady}
use Rattle.settling_laws.specs.Beside.{IsSettlingStateOf}
use Rattle.settling_laws.proofs.CountedLemmas.{counted_beside}
use Rattle.settling_laws.proofs.FurtherLemmas.{ready_grown, below_grown, same_claims, more_names}
use Rattle.net_rules.specs.declared.state.InterfaceState.{InterfaceState}
use Rattle.net_reach.specs.declared.reach.Reach.{Reach}
use Rattle.net_reach.specs.Reach.{IsReachOf}
use Rattle.state_requests.specs.States.{States}
use Rattle.state_requests.specs.Kept.{AreStatesOf}
use Rattle.state_requests.specs.Counted.{IsCountedBy}
use Rattle.net_follow.specs.declared.follower.Follower.{Follower}
use Rattle.net_follow.specs.InStep.{inputs_of, IsInStep}
use Rattle.net_follow.proofs.CountLemmas.{tied_other}
use Rattle.net_follow.proofs.KeptLemmas.{room_kept}
use Rattle.net_follow.proofs.StepLemmas.{moment_of, same_moment}

-- what reaches what may be another that is that of the inputs
pub step_reached : (f : Follower) (reach : Reach) → IsReachOf (inputs_of f) reach → IsInStep f → IsInStep (record f { states = record f.states { reach = reach } })
step_reached f reach reaches step = record {
  history = step.history;
  states = record { tied = tied_other (inputs_of f) (inputs_of f).devices (inputs_of f).operator_states f.states reach reaches step.states.tied; are = step.states.are };
  counted = step.counted;
  ready = step.ready;
  room = room_kept f (record f { states = record f.states { reach = reach } }) refl refl refl step.room;
}

-- what another graph leaves
record Stays (inputs : Inputs) (list : List InterfaceState) (before now : SettlingState) : Type 0 where
  pub held : held_of now ≡ held_of before
  pub loads : now.graph.loads ≡ before.graph.loads
  pub counted : IsCountedBy inputs list now
  pub ready : IsReady now

module _ (old : Follower) (name : List ℕ) (step : IsInStep old) (whole : IsWhole old.settling.graph.known) where
  abbrev pub HasGrown : State → Type 0
  HasGrown s = (s ≡ old.settling.graph) ⊎ ((place_among old.settling.graph.known.names name ≡ None) × (s ≡ added_after old.settling.graph name))

  abbrev with_graph : State → SettlingState
  with_graph s = record old.settling { graph = s }

  beside : IsSettlingStateOf (inputs_of old) old.settling
  beside = counted_beside (inputs_of old) old.states.list.items old.settling whole.names step.counted.agrees.below step.states.are step.counted.counted.claims step.counted.counted.givers

  stays_added : place_among old.settling.graph.known.names name ≡ None → Stays (inputs_of old) old.states.list.items old.settling (with_graph (added_after old.settling.graph name))
  stays_added other = record {
    held = refl;
    loads = refl;
    counted = record {
      agrees = record {
        below = below_grown (facts_of (inputs_of old)) old.settling.graph name step.counted.agrees.below;
        knows = λ q member. more_names old.settling.graph.known.names name q (step.counted.agrees.knows q member);
      };
      counted = record {
        claims = λ q. same_claims old.settling.graph.known.names name q ∙ step.counted.counted.claims q;
        givers = step.counted.counted.givers;
      };
      room = step.counted.room;
    };
    ready = ready_grown (inputs_of old) old.settling name (orderly (moment_of (inputs_of old) (held_of old.settling)) step.history).sound beside other step.ready;
  }

  stays : (s : State) → HasGrown s → Stays (inputs_of old) old.states.list.items old.settling (with_graph s)
  stays s grown = elim grown as (λ _. Stays (inputs_of old) old.states.list.items old.settling (with_graph s)) [
    | inl same ↦ subst (λ (g : State). Stays (inputs_of old) old.states.list.items old.settling (with_graph g)) (sym same) (record { held = refl; loads = refl; counted = step.counted; ready = step.ready })
    | inr more ↦ subst (λ (g : State). Stays (inputs_of old) old.states.list.items old.settling (with_graph g)) (sym more.1) (stays_added more.0)
  ]

  module _ (now : Follower) (inputs : inputs_of now ≡ inputs_of old) (settling_state : now.settling ≡ with_graph now.settling.graph) (grown : HasGrown now.settling.graph) where
    pub held_grown : held_of now.settling ≡ held_of old.settling
    held_grown = ap held_of settling_state ∙ (stays now.settling.graph grown).held

    pub loads_grown : now.settling.graph.loads ≡ old.settling.graph.loads
    loads_grown = (stays now.settling.graph grown).loads

    pub step_grown : now.states ≡ old.states → vec_capacity now.touched ≡ vec_capacity old.touched → deque_capacity now.notices ≡ deque_capacity old.notices → IsInStep now
    step_grown states touched notices =
        let kept = stays now.settling.graph grown in
        let counted : IsCountedBy (inputs_of old) old.states.list.items now.settling = subst (λ (c : SettlingState). IsCountedBy (inputs_of old) old.states.list.items c) (sym settling_state) kept.counted in
        let beside_list : IsCountedBy (inputs_of old) now.states.list.items now.settling = subst (λ (ss : States). IsCountedBy (inputs_of old) ss.list.items now.settling) (sym states) counted in
        let are : AreStatesOf (inputs_of old) now.states = subst (AreStatesOf (inputs_of old)) (sym states) step.states in
        record {
          history = subst IsHistory (sym (same_moment inputs held_grown)) step.history;
          states = subst (λ (x : Inputs). AreStatesOf x now.states) (sym inputs) are;
          counted = subst (λ (x : Inputs). IsCountedBy x now.states.list.items now.settling) (sym inputs) beside_list;
          ready = subst IsReady (sym settling_state) kept.ready;
          room = room_kept old now (ap (λ (x : Inputs). x.conf) inputs) touched notices step.room;
        }
