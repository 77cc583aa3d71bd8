-- A graph of rows that are loaded over one of a network.
use Rattle.std.proofs.Common.{arith, ◌≡◌, ◌≤◌, ◌+◌, ◌++◌, ℕ, List, Contains, Some, ap, sym, subst, ◌∙◌}
use Rattle.kern_model.specs.declared.object.Device.{Device}
use Rattle.net_rules.specs.declared.inputs.Inputs.{Inputs}
use Rattle.net_rules.specs.declared.event.Event.TheVariants as event
use Rattle.net_rules.specs.Rows.{names_of}
use Rattle.net_rules.specs.Inputs.{facts_of, device_in}
use Rattle.net_rules.specs.Sound.{IsSound}
use Rattle.net_rules.specs.Moment.{IsHistory}
use Rattle.net_rules.proofs.MomentLemmas.{present_follows}
use Rattle.graph_rules.specs.State.{State, claims_in}
use Rattle.graph_rules.specs.After.{loaded_after}
use Rattle.graph_laws.proofs.UsedLemmas.{knows_loaded}
use Rattle.net_follow.specs.SettlingState.{held_of}
use Rattle.net_follow.proofs.SettlingStateLoadLemmas.{loaded_below, loaded_claims}
use Rattle.load_parts.proofs.FurtherLemmas.{devices_are_there}
use Rattle.net_rules.specs.Claims.{claims_of}
use Rattle.net_follow.specs.Counted.{AgreesWith}
use Rattle.net_follow.specs.declared.follower.Follower.{Follower}
use Rattle.net_follow.specs.InStep.{inputs_of, IsInStep}
use Rattle.net_rebuild.specs.declared.rebuild.Rebuild.{Rebuild}
use Rattle.net_rebuild.specs.Rebuild.{IsRebuildOf}
use Rattle.net_rebuild.specs.Begun.{HasBegun}

module _ (f : Follower) (made : Rebuild) (step : IsInStep f) (rebuild : IsRebuildOf f (event.Load made.inputs.inputs.conf) made) where
  abbrev pub loaded : State
  loaded = loaded_after (Some f.settling.graph) made.inputs.inputs.conf made.plain.items made.ports.items

  same_present : (name : List ℕ) → device_in made.inputs.inputs.devices name ≡ device_in (inputs_of f).devices name
  same_present name =
      ap (λ (i : Inputs). device_in i.devices name) rebuild.inputs
      ∙ ap (λ (devices : List (List ℕ × Device)). device_in devices name) (present_follows (inputs_of f) (event.Load made.inputs.inputs.conf))

  pub loaded_agrees : AgreesWith made.inputs.inputs loaded.known
  loaded_agrees = record {
    below = loaded_below (facts_of (inputs_of f)) (facts_of made.inputs.inputs) f.settling.graph.known made.plain.items made.ports.items step.counted.agrees.below same_present rebuild.ports
        (λ name d is.
        subst (λ (plain : List (List ℕ)). Contains (names_of made.inputs.inputs.conf ++ plain) name) (sym rebuild.further)
        (devices_are_there made.inputs.inputs name d (same_present name ∙ is)));
    knows = knows_loaded f.settling.graph.known.names made.inputs.inputs.conf made.plain.items made.ports.items;
  }

  pub loaded_few_claims : (name : List ℕ) → claims_in loaded.known name ≤ claims_of f.states.list.items name
  loaded_few_claims name =
      let few : claims_in loaded.known name ≤ claims_in f.settling.graph.known name = loaded_claims f.settling.graph.known.names made.inputs.inputs.conf made.plain.items made.ports.items name in
      let all : claims_in f.settling.graph.known name ≡ claims_of f.states.list.items name = step.counted.counted.claims name in
      omega (arith, few, all)

  pub load_history : IsSound made.inputs.inputs.conf → IsHistory (record { inputs = made.inputs.inputs; held = held_of f.settling })
  load_history sound =
      subst (λ (i : Inputs). IsHistory (record { inputs = i; held = held_of f.settling })) (sym rebuild.inputs)
      (IsHistory.came (record { inputs = inputs_of f; held = held_of f.settling }) (event.Load made.inputs.inputs.conf) step.history sound)

  -- one load more
  pub has_loaded : (now : Follower) → inputs_of now ≡ made.inputs.inputs → now.notices.items ≡ made.notices.items → held_of now.settling ≡ held_of f.settling → now.settling.graph.loads ≡ loaded.loads
      → HasBegun (event.Load made.inputs.inputs.conf) 1 f now
  has_loaded now inputs told held loads = record {
    inputs = inputs ∙ rebuild.inputs;
    held = held;
    told = told ∙ rebuild.told;
    loads = loads;
  }
