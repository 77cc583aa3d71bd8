-- A plane that is new.
use Rattle.std.proofs.Common.{arith, ◌≡◌, ◌≤◌, ◌*◌, ◌^◌, inl, inr, List, [], ◌∷◌, length, false, vec_capacity, refl, ap, sym, subst, ◌∙◌}
use Rattle.std.specs.FinSet as set
use Rattle.std.specs.VecDeque.{deque_capacity}
use Rattle.kern_model.specs.declared.object.Object.{Object}
use Rattle.kern_model.specs.ObjectOrder.{Objects, Has, set_of}
use Rattle.kern_model.proofs.OrderLemmas.{objects_total}
use Rattle.kern_model.proofs.MemberLemmas.{here, none_in_nil}
use Rattle.kern_model.proofs.SetLemmas.{member_of_set, set_of_member, none_in_empty, same_members}
use Rattle.kern_model.proofs.TestLemmas.{either}
use Rattle.kern_calls.proofs.CountLemmas.{set_of_items}
use Rattle.net_rules.specs.declared.inputs.Inputs.{Inputs}
use Rattle.net_rules.specs.Inputs.{no_inputs}
use Rattle.net_rules.specs.Moment.{IsHistory}
use Rattle.graph_rules.specs.State.{empty}
use Rattle.given_objects.specs.declared.gift.Gift.{Gift}
use Rattle.given_objects.specs.Gifts.{objects_by}
use Rattle.net_rebuild.specs.SettlingState.{SettlingState, held_of, IsReady}
use Rattle.net_rules.specs.declared.state.InterfaceState.{InterfaceState}
use Rattle.net_rebuild.specs.Kept.{AreStatesOf}
use Rattle.net_rebuild.specs.Counted.{IsCountedBy}
use Rattle.net_rebuild.specs.Follower.{Follower}
use Rattle.net_rebuild.specs.InStep.{inputs_of, IsInStep}
use Rattle.net_plane.specs.Network.{IsNew}
use Rattle.net_plane.specs.Seen.{network_of}
use Rattle.net_plane.proofs.MomentLemmas.{same_moment}

abbrev pub bare : SettlingState
bare = record { graph = empty; gifts = []; may_lose_link = false }

no_gift : (o : Object) → Has (objects_by (λ (g : Gift). g.held) []) o → ⊥
no_gift o h = none_in_nil o (member_of_set [] o h)

bare_held : held_of bare ≡ set.empty
bare_held =
    let none : Objects = objects_by (λ (g : Gift). g.held) [] in
    same_members (set.union set.empty none) set.empty
    (λ o h. elim (either (set.contains set.empty o) (set.contains none o) (sym (set.contains-union objects_total set.empty none o) ∙ h)) as (λ _. Has set.empty o) [ inl first ↦ first | inr second ↦ absurd (no_gift o second) ])
    (λ o h. absurd (none_in_empty o h))

bare_counted : IsCountedBy no_inputs [] bare
bare_counted = record {
  agrees = record {
    below = record { rows = refl; vlans = refl; radio = refl; devices = λ name. refl };
    knows = λ name member. member;
  };
  counted = record { claims = λ name. refl; givers = λ o. refl };
  room = record {
    places = λ place row at first needs. cc at;
    few = λ row l3_device member. absurd (none_in_nil row member);
    rows = omega arith;
  };
}

-- a list of nothing is empty
no_items : (os : List Object) → set_of os ≡ set.empty → os ≡ []
no_items [] is = refl
no_items (o ∷ os) is = absurd (none_in_empty o (subst (λ (s : Objects). Has s o) is (set_of_member (o ∷ os) o (here o os))))

nothing_of : {X : Type 0} (xs : List X) → length xs ≡ 0 → xs ≡ []
nothing_of [] is = refl
nothing_of (x ∷ xs) is = cc is

module _ (f : Follower) (none : inputs_of f ≡ no_inputs) (is : f.settling ≡ bare) (are : AreStatesOf no_inputs f.states) where
  held_none : held_of f.settling ≡ set.empty
  held_none = ap held_of is ∙ bare_held

  counted_none : IsCountedBy (inputs_of f) f.states.list.items f.settling
  counted_none =
      let nothing : f.states.list.items ≡ [] = nothing_of f.states.list.items are.are.size in
      subst (λ (i : Inputs). IsCountedBy i f.states.list.items f.settling) (sym none)
      (subst (λ (list : List InterfaceState). IsCountedBy no_inputs list f.settling) (sym nothing)
      (subst (λ (c : SettlingState). IsCountedBy no_inputs [] c) (sym is) bare_counted))

  pub new_in_step : IsReady f.settling → IsInStep f
  new_in_step ready = record {
    history = subst IsHistory (sym (same_moment none held_none)) IsHistory.nothing;
    states = subst (λ (i : Inputs). AreStatesOf i f.states) (sym none) are;
    counted = counted_none;
    ready = ready;
    room = record {
      touched = subst (λ (i : Inputs). length i.conf.interfaces ≤ vec_capacity f.touched) (sym none) (omega arith);
      notices = subst (λ (i : Inputs). 2 * length i.conf.interfaces ≤ deque_capacity f.notices) (sym none) (omega arith);
      routes = subst (λ (i : Inputs). length i.conf.routes ≤ 2 ^ 49) (sym none) (omega arith);
    };
  }

  pub new_seen : f.notices.items ≡ [] → IsNew (network_of f)
  new_seen untold = record {
    inputs = none;
    held = no_items (set.items (held_of f.settling)) (set_of_items (held_of f.settling) ∙ held_none);
    notices = untold;
  }
