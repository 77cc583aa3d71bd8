-- A graph beside a network that gets further names, and other ports of radios.
use Rattle.std.proofs.Common.{arith, ◌≡◌, ◌≤◌, ◌+◌, ◌++◌, inl, inr, ℕ, List, map, Contains, None, Option, refl, ap, sym, subst, ◌∙◌}
use Rattle.std.specs.FinSet as set
use Rattle.std.proofs.lemmas.List.Elements.{Contains-append_cases}
use Rattle.kern_model.specs.declared.object.Device.{Device}
use Rattle.kern_model.specs.ObjectOrder.{Objects}
use Rattle.kern_model.proofs.MemberLemmas.{map_member}
use Rattle.net_rows.specs.declared.rows.Conf.{Conf}
use Rattle.net_rows.specs.declared.rows.NameRow.{NameRow}
use Rattle.net_rules.specs.declared.inputs.Inputs.{Inputs}
use Rattle.net_rules.specs.declared.event.Event.TheVariants as event
use Rattle.net_rules.specs.Rows.{names_of}
use Rattle.net_rules.specs.RadioPorts.{RadioPort, radio_ports}
use Rattle.net_rules.specs.Sound.{IsSound}
use Rattle.net_rules.specs.Inputs.{facts_of, device_in}
use Rattle.net_rules.specs.Moment.{Moment, IsHistory}
use Rattle.net_rules.proofs.MomentLemmas.{conf_follows, present_follows}
use Rattle.net_rules.proofs.HistoryLemmas.{orderly}
use Rattle.graph_rules.specs.declared.ids.RadioPort.{RadioPort as GivenPort}
use Rattle.graph_rules.specs.State.{State, names_in, claims_in, place_among}
use Rattle.graph_rules.specs.Answers.{port_of}
use Rattle.graph_rules.specs.After.{added_after, ports_after}
use Rattle.graph_rules.specs.Conditions.{ArePorts}
use Rattle.graph_tables.specs.Whole.{IsWhole}
use Rattle.graph_laws.proofs.RadioLemmas.{are_ports}
use Rattle.given_objects.specs.Gifts as gift
use Rattle.net_follow.specs.SettlingState.{SettlingState, held_of, IsReady}
use Rattle.net_follow.specs.Beside.{IsSettlingStateOf}
use Rattle.net_follow.proofs.CountedLemmas.{counted_beside}
use Rattle.net_follow.proofs.FurtherLemmas.{beside_grown, ready_grown, below_grown, same_claims, more_names}
use Rattle.load_parts.specs.Further.{further_names}
use Rattle.load_parts.proofs.FurtherLemmas.{ports_are_there}
use Rattle.net_rules.specs.declared.state.InterfaceState.{InterfaceState}
use Rattle.net_rules.specs.Claims.{claims_of}
use Rattle.net_follow.specs.Counted.{AgreesWith, IsCountedBy}
use Rattle.net_follow.specs.declared.follower.Follower.{Follower}
use Rattle.net_follow.specs.InStep.{inputs_of, IsInStep, LooksAs}
use Rattle.net_rebuild.specs.declared.rebuild.Rebuild.{Rebuild}
use Rattle.net_rebuild.specs.Rebuild.{IsRebuildOf}
use Rattle.net_rebuild.specs.Begun.{HasBegun}
use Rattle.net_rebuild.specs.Joined.{HasMoreNames}
use Rattle.net_rebuild.proofs.NameLemmas.{joined_held, joined_loads}

-- ---- further names change nothing

-- what stays while names join
record Stays (inputs : Inputs) (states : List InterfaceState) (c : SettlingState) : Type 0 where
  pub beside : IsSettlingStateOf inputs c
  pub ready : IsReady c
  pub counted : IsCountedBy inputs states c

module _ (inputs : Inputs) (states : List InterfaceState) (sound : IsSound inputs.conf) where
  one_stays : (c : SettlingState) (name : List ℕ) → place_among c.graph.known.names name ≡ None → Stays inputs states c → Stays inputs states (record c { graph = added_after c.graph name })
  one_stays c name other stays = record {
    beside = beside_grown inputs c name sound stays.beside other;
    ready = ready_grown inputs c name sound stays.beside other stays.ready;
    counted = record {
      agrees = record {
        below = below_grown (facts_of inputs) c.graph name stays.counted.agrees.below;
        knows = λ q member. more_names c.graph.known.names name q (stays.counted.agrees.knows q member);
      };
      counted = record {
        claims = λ q. same_claims c.graph.known.names name q ∙ stays.counted.counted.claims q;
        givers = stays.counted.counted.givers;
      };
      room = stays.counted.room;
    };
  }

  all_stay : (c : SettlingState) (before now : State) → HasMoreNames before now → Stays inputs states (record c { graph = before }) → Stays inputs states (record c { graph = now })
  all_stay c before now HasMoreNames.none stays = stays
  all_stay c before now (HasMoreNames.joins mid name more other) stays = one_stays (record c { graph = mid }) name other (all_stay c before mid more stays)

module _ (f : Follower) (now : State) (step : IsInStep f) (whole : IsWhole f.settling.graph.known) (more : HasMoreNames f.settling.graph now) where
  abbrev pub named : Follower
  named = record f { settling = record f.settling { graph = now } }

  stays_named : Stays (inputs_of f) f.states.list.items named.settling
  stays_named =
      let moment : Moment = record { inputs = inputs_of f; held = held_of f.settling } in
      all_stay (inputs_of f) f.states.list.items (orderly moment step.history).sound f.settling f.settling.graph now more
      (record {
        beside = counted_beside (inputs_of f) f.states.list.items f.settling whole.names step.counted.agrees.below step.states.are step.counted.counted.claims step.counted.counted.givers;
        ready = step.ready;
        counted = step.counted;
      })

  held_named : held_of named.settling ≡ held_of f.settling
  held_named = ap (λ (h : Objects). set.union h (gift.held_of f.settling.gifts)) (joined_held f.settling.graph now more)

  pub looks_named : LooksAs f named
  looks_named = record { inputs = refl; held = held_named; told = refl; loads = joined_loads f.settling.graph now more }

  pub step_named : IsInStep named
  step_named = record {
    history = subst (λ (h : Objects). IsHistory (record { inputs = inputs_of f; held = h })) (sym held_named) step.history;
    states = step.states;
    counted = stays_named.counted;
    ready = stays_named.ready;
    room = record { touched = step.room.touched; notices = step.room.notices; routes = step.room.routes };
  }

  -- ---- other ports

  module _ (made : Rebuild) (radio : List ℕ) (number : ℕ) (ports : List (Option (List ℕ))) (rebuild : IsRebuildOf f (event.Radio radio number ports) made)
      (known : (name : List ℕ) → Contains made.plain.items name → Contains (names_in now.known) name) where
    conf_same : made.inputs.inputs.conf ≡ (inputs_of f).conf
    conf_same = ap (λ (i : Inputs). i.conf) rebuild.inputs ∙ conf_follows (inputs_of f) (event.Radio radio number ports)

    present_same : made.inputs.inputs.devices ≡ (inputs_of f).devices
    present_same = ap (λ (i : Inputs). i.devices) rebuild.inputs ∙ present_follows (inputs_of f) (event.Radio radio number ports)

    rows_same : now.known.rows ≡ made.inputs.inputs.conf.names
    rows_same = step_named.counted.agrees.below.rows ∙ ap (λ (conf : Conf). conf.names) (sym conf_same)

    pub ported_agrees : AgreesWith made.inputs.inputs (ports_after now made.ports.items).known
    ported_agrees = record {
      below = record {
        rows = rows_same;
        vlans = step_named.counted.agrees.below.vlans ∙ ap (λ (conf : Conf). conf.vlans) (sym conf_same);
        radio = rebuild.ports;
        devices = λ name. step_named.counted.agrees.below.devices name ∙ ap (λ (devices : List (List ℕ × Device)). device_in devices name) (sym present_same);
      };
      knows = step_named.counted.agrees.knows;
    }

    port_known : (p : GivenPort) → Contains made.ports.items p → Contains (names_in now.known) p.port
    port_known p member =
        let its : Contains (radio_ports (facts_of made.inputs.inputs)) (port_of p) = subst (λ (js : List RadioPort). Contains js (port_of p)) rebuild.ports (map_member port_of made.ports.items p member) in
        elim (Contains-append_cases (names_of made.inputs.inputs.conf) (further_names made.inputs.inputs) p.port (ports_are_there made.inputs.inputs (port_of p) its)) as (λ _. Contains (names_in now.known) p.port) [
          | inl row ↦ step_named.counted.agrees.knows p.port (subst (λ (rows : List NameRow). Contains (map (λ (row : NameRow). row.name) rows) p.port) (sym rows_same) row)
          | inr further ↦ known p.port (subst (λ (names : List (List ℕ)). Contains names p.port) (sym rebuild.further) further)
        ]

    pub may_be_ports : ArePorts now.known.rows (names_in now.known) made.ports.items
    may_be_ports =
        subst (λ (rows : List NameRow). ArePorts rows (names_in now.known) made.ports.items) (sym rows_same)
        (are_ports (facts_of made.inputs.inputs) (names_in now.known) made.ports.items rebuild.ports port_known)

    pub ported_few_claims : (name : List ℕ) → claims_in (ports_after now made.ports.items).known name ≤ claims_of f.states.list.items name
    ported_few_claims name = let all : claims_in now.known name ≡ claims_of f.states.list.items name = step_named.counted.counted.claims name in omega (arith, all)

    pub radio_history : IsHistory (record { inputs = made.inputs.inputs; held = held_of named.settling })
    radio_history =
        subst (λ (i : Inputs). IsHistory (record { inputs = i; held = held_of named.settling })) (sym rebuild.inputs)
        (IsHistory.came (record { inputs = inputs_of f; held = held_of named.settling }) (event.Radio radio number ports) step_named.history tt)

    -- no load more
    pub has_joined : (next : Follower) → inputs_of next ≡ made.inputs.inputs → next.notices.items ≡ made.notices.items → held_of next.settling ≡ held_of named.settling → next.settling.graph.loads ≡ now.loads
        → HasBegun (event.Radio radio number ports) 0 f next
    has_joined next inputs told held loads = record {
      inputs = inputs ∙ rebuild.inputs;
      held = held ∙ held_named;
      told = told ∙ rebuild.told;
      loads = let all : next.settling.graph.loads ≡ f.settling.graph.loads = loads ∙ joined_loads f.settling.graph now more in omega (arith, all);
    }
