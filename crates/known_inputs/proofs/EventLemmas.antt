-- What stands once in inputs that events lead to.
use Rattle.std.proofs.Common.{arith, ℕ, ◌≡◌, ◌≤◌, inl, inr, List, [], ◌∷◌, map, Contains, Bool, true, false, cond, Option, Some, None, refl, subst}
use Rattle.std.specs.Prelude.{is_some, is_none}
use Rattle.std.specs.Option.{option_map, option_and_then}
use Rattle.kern_model.proofs.MemberLemmas.{first_or_later, none_in_nil}
use Rattle.net_rows.specs.declared.rows.Conf.{Conf}
use Rattle.net_rows.specs.declared.rows.InterfaceRow.{InterfaceRow}
use Rattle.net_rules.specs.declared.inputs.Inputs.{Inputs}
use Rattle.net_rules.specs.declared.inputs.OperatorState.{OperatorState}
use Rattle.net_rules.specs.declared.inputs.OpenInterface.{OpenInterface}
use Rattle.net_rules.specs.declared.refusal.Refusal.TheVariants as refused
use Rattle.net_rules.specs.declared.event.Event.{Event}
use Rattle.net_rules.specs.declared.event.Event.TheVariants as event
use Rattle.net_rules.specs.Rows.{interface_named}
use Rattle.net_rules.specs.Need.{interface_need}
use Rattle.net_rules.specs.Inputs.{facts_of, no_inputs, open_interface}
use Rattle.net_rules.specs.After.{kept_operator_states, changed, after}
use Rattle.net_rules.specs.Fresh.{IsReached}
use Rattle.net_rules.specs.Moment.{Moment}
use Rattle.net_rules.specs.Refusal.{refused_if, refusal}
use Rattle.net_rules.proofs.ReachedLemmas.{reached_kept}
use Rattle.net_rules.proofs.NumberLemmas.{reached_numbered, next_rises}
use Rattle.known_inputs.specs.Known.{IsNamed, StandOnce, commanded_names}
use Rattle.known_inputs.proofs.NameLemmas.{once_distinct, no_member}
use Rattle.known_inputs.proofs.StandLemmas.{operator_states_of_rows}

pub nothing_stands : StandOnce no_inputs
nothing_stands = record {
  devices = tt;
  operator_states = record { once = tt; named = λ name member. absurd (none_in_nil name member) };
  requests = record { once = tt; named = λ name member. absurd (none_in_nil name member) };
  numbers = tt;
  next = omega arith;
}

first_number : (inputs : Inputs) → IsReached inputs → 1 ≤ inputs.next
first_number inputs IsReached.nothing = omega arith
first_number inputs (IsReached.behind before event reached) =
    let least = first_number before reached in let rises = next_rises before event in omega (arith, least, rises)

-- an open request is that of an interface of the rows
none_unmapped : {X Y : Type 0} (f : X → Y) (o : Option X) → option_map f o ≡ None → o ≡ None
none_unmapped f None h = refl
none_unmapped f (Some x) h = cc h

requests_named : (inputs : Inputs) (name : List ℕ) (row : Option InterfaceRow) → interface_named inputs.conf name ≡ row
    → option_map (λ o. o.request) (open_interface inputs.interfaces name) ≡ option_and_then (interface_need (facts_of inputs)) row
    → Contains (map (λ o. o.request.name) inputs.interfaces) name → is_some row ≡ true
requests_named inputs name None is need member =
    absurd (no_member (λ (o : OpenInterface). o.request.name) inputs.interfaces name (none_unmapped (λ (o : OpenInterface). o.request) (open_interface inputs.interfaces name) need) member)
requests_named inputs name (Some row) is need member = refl

pub reached_stands : (inputs : Inputs) → IsReached inputs → ((name : List ℕ) → Contains (commanded_names inputs) name → IsNamed inputs.conf name) → StandOnce inputs
reached_stands inputs reached named =
    let kept = reached_kept inputs reached in
    record {
      devices = once_distinct (λ e. e.0) inputs.devices kept.devices;
      operator_states = record { once = once_distinct (λ c. c.interface) inputs.operator_states kept.operator_states; named = named };
      requests = record {
        once = once_distinct (λ o. o.request.name) inputs.interfaces kept.single.interfaces;
        named = λ name member. requests_named inputs name (interface_named inputs.conf name) refl (kept.are.interfaces name) member;
      };
      numbers = (reached_numbered inputs reached).interfaces;
      next = first_number inputs reached;
    }

-- operator states that are kept are for interfaces of the rows
kept_named : (conf : Conf) (operator_states : List OperatorState) (name : List ℕ) → Contains (map (λ c. c.interface) (kept_operator_states conf operator_states)) name → IsNamed conf name
kept_named conf [] name member = absurd (none_in_nil name member)
kept_named conf (c ∷ cs) name member = by (is_some (interface_named conf c.interface)) refl member (kept_named conf cs name)
  where
    by : (b : Bool) → is_some (interface_named conf c.interface) ≡ b → Contains (map (λ (x : OperatorState). x.interface) (cond b (c ∷ kept_operator_states conf cs) (kept_operator_states conf cs))) name
        → (Contains (map (λ (x : OperatorState). x.interface) (kept_operator_states conf cs)) name → IsNamed conf name) → IsNamed conf name
    by true is h rest = elim (first_or_later c.interface (map (λ (x : OperatorState). x.interface) (kept_operator_states conf cs)) name h) as (λ _. IsNamed conf name) [
      | inl same ↦ subst (IsNamed conf) same is
      | inr later ↦ rest later
    ]
    by false is h rest = rest h

not_refused : (row : Option InterfaceRow) → refused_if (is_none row) refused.NoInterface ≡ None → is_some row ≡ true
not_refused None h = cc h
not_refused (Some row) h = refl

operator_states_named : (moment : Moment) (event : Event) → StandOnce moment.inputs → refusal moment event ≡ None
    → (name : List ℕ) → Contains (commanded_names (changed moment.inputs event)) name → IsNamed (changed moment.inputs event).conf name
operator_states_named moment (event.Load conf) stand taken name member = kept_named conf moment.inputs.operator_states name member
operator_states_named moment (event.Device what) stand taken name member = stand.operator_states.named name member
operator_states_named moment (event.Operator interface up) stand taken name member =
    (operator_states_of_rows moment.inputs.conf moment.inputs.operator_states interface up stand.operator_states (not_refused (interface_named moment.inputs.conf interface) taken)).named name member
operator_states_named moment (event.Answer interface number answer) stand taken name member = stand.operator_states.named name member
operator_states_named moment (event.Radio radio number ports) stand taken name member = stand.operator_states.named name member

-- the requests that follow change neither rows nor operator states
named_after : (inputs : Inputs) (event : Event) → ((name : List ℕ) → Contains (commanded_names (changed inputs event)) name → IsNamed (changed inputs event).conf name)
    → (name : List ℕ) → Contains (commanded_names (after inputs event)) name → IsNamed (after inputs event).conf name
unfolding after
named_after inputs event named = named

pub stands_after : (moment : Moment) (event : Event) → IsReached moment.inputs → StandOnce moment.inputs → refusal moment event ≡ None → StandOnce (after moment.inputs event)
stands_after moment event reached stand taken =
    reached_stands (after moment.inputs event) (IsReached.behind moment.inputs event reached) (named_after moment.inputs event (operator_states_named moment event stand taken))
