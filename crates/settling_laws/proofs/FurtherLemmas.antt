-- A further plain name changes nothing of what a graph wants.
use Rattle.std.proofs.Common.{ℕ, ◌≡◌, List, [], ◌∷◌, map, Bool, true, false, cond, Contains, Some, None, refl, ap, sym, subst, ◌∙◌}
use Rattle.std.specs.Prelude.{bytes_eq}
use Rattle.std.specs.FinSet as set
use Rattle.std.specs.Option.{option_map_or, option_and_then}
use Rattle.std.proofs.lemmas.List.Elements.{Contains-append_left}
use Rattle.std.proofs.lemmas.List.{map-append}
use Rattle.kern_model.specs.Kernel.{name_of}
use Rattle.kern_model.specs.Allowed.{AreAllowed}
use Rattle.kern_model.specs.Touched.{loses_link}
use Rattle.net_rules.specs.declared.inputs.Inputs.{Inputs}
use Rattle.net_rules.specs.Facts.{Facts}
use Rattle.net_rules.specs.Sound.{IsSound}
use Rattle.net_rules.specs.Inputs.{facts_of}
use Rattle.graph_rules.specs.State.{Named, State, named_in, name_list, device_among, claims_among, place_among}
use Rattle.graph_rules.specs.After.{with_name, added_after}
use Rattle.graph_rules.specs.Wanted.{want_in}
use Rattle.graph_rules.specs.Agreeing.{Agrees}
use Rattle.graph_counts.proofs.GrowLemmas.{sound_with_name}
use Rattle.graph_laws.specs.Below.{AgreesBelow}
use Rattle.graph_laws.proofs.EdgeLemmas.{rows_named}
use Rattle.graph_laws.proofs.LowerLemmas.{lower_part_wanted}
use Rattle.graph_laws.proofs.LostLinkLemmas.{links_stay}
use Rattle.given_objects.specs.Gifts.{given_of}
use Rattle.graph_settle.specs.SettlingState as settling_state
use Rattle.graph_settle.specs.SettlingState.{SettlingState, held_of, wanted_of, IsReady}
use Rattle.settling_laws.specs.Beside.{IsSettlingStateOf}
use Rattle.settling_laws.proofs.SettlingStateLemmas.{has_devices}

-- what a name at the end tells of a name: it has neither a device nor claims
last_device : (name q : List ℕ) (b : Bool) → option_and_then (λ (n : Named). n.device) (cond b (Some (let last : Named = record { name = name; device = None; claims = 0 } in last)) None) ≡ None
last_device name q true = refl
last_device name q false = refl

last_claims : (name q : List ℕ) (b : Bool) → option_map_or (λ (n : Named). n.claims) (cond b (Some (let last : Named = record { name = name; device = None; claims = 0 } in last)) None) 0 ≡ 0
last_claims name q true = refl
last_claims name q false = refl

more_devices_by : (n : Named) (ns more : List Named) (q : List ℕ) (b : Bool) → option_and_then (λ (m : Named). m.device) (named_in more q) ≡ option_and_then (λ (m : Named). m.device) (named_in ns q)
    → option_and_then (λ (m : Named). m.device) (cond b (Some n) (named_in more q)) ≡ option_and_then (λ (m : Named). m.device) (cond b (Some n) (named_in ns q))
more_devices_by n ns more q true rest = refl
more_devices_by n ns more q false rest = rest

more_claims_by : (n : Named) (ns more : List Named) (q : List ℕ) (b : Bool) → option_map_or (λ (m : Named). m.claims) (named_in more q) 0 ≡ option_map_or (λ (m : Named). m.claims) (named_in ns q) 0
    → option_map_or (λ (m : Named). m.claims) (cond b (Some n) (named_in more q)) 0 ≡ option_map_or (λ (m : Named). m.claims) (cond b (Some n) (named_in ns q)) 0
more_claims_by n ns more q true rest = refl
more_claims_by n ns more q false rest = rest

same_devices : (ns : List Named) (name q : List ℕ) → device_among (with_name ns name) q ≡ device_among ns q
same_devices [] name q = last_device name q (bytes_eq name q)
same_devices (n ∷ ns) name q = more_devices_by n ns (with_name ns name) q (bytes_eq n.name q) (same_devices ns name q)

pub same_claims : (ns : List Named) (name q : List ℕ) → claims_among (with_name ns name) q ≡ claims_among ns q
same_claims [] name q = last_claims name q (bytes_eq name q)
same_claims (n ∷ ns) name q = more_claims_by n ns (with_name ns name) q (bytes_eq n.name q) (same_claims ns name q)

pub more_names : (ns : List Named) (name q : List ℕ) → Contains (name_list ns) q → Contains (name_list (with_name ns name)) q
more_names ns name q h =
    let last : Named = record { name = name; device = None; claims = 0 } in
    subst (λ (names : List (List ℕ)). Contains names q) (sym (map-append (λ (n : Named). n.name) ns (last ∷ []))) (Contains-append_left (name_list ns) (name ∷ []) q h)

pub below_grown : (facts : Facts) (s : State) (name : List ℕ) → AgreesBelow facts s.known → AgreesBelow facts (added_after s name).known
below_grown facts s name below = record {
  rows = below.rows;
  vlans = below.vlans;
  radio = below.radio;
  devices = λ q. same_devices s.known.names name q ∙ below.devices q;
}

module _ (inputs : Inputs) (c : SettlingState) (name : List ℕ) (sound : IsSound inputs.conf) (beside : IsSettlingStateOf inputs c) (other : place_among c.graph.known.names name ≡ None) where
  abbrev grown : SettlingState
  grown = record { graph = added_after c.graph name; gifts = c.gifts; may_lose_link = c.may_lose_link }

  agrees_grown : Agrees (facts_of inputs) grown.graph.known
  agrees_grown = record {
    rows = beside.agrees.rows;
    vlans = beside.agrees.vlans;
    radio = beside.agrees.radio;
    devices = λ q. same_devices c.graph.known.names name q ∙ beside.agrees.devices q;
    claims = λ q. same_claims c.graph.known.names name q ∙ beside.agrees.claims q;
  }

  pub beside_grown : IsSettlingStateOf inputs grown
  beside_grown = record { sound = sound_with_name c.graph.known name beside.sound other; agrees = agrees_grown; given = beside.given }

  same_wants : want_in grown.graph.known ≡ want_in c.graph.known
  same_wants =
      lower_part_wanted (facts_of inputs) grown.graph.known sound agrees_grown (rows_named grown.graph.known beside_grown.sound)
      ∙ sym (lower_part_wanted (facts_of inputs) c.graph.known sound beside.agrees (rows_named c.graph.known beside.sound))

  same_devices_grown : settling_state.devices_of grown ≡ settling_state.devices_of c
  same_devices_grown = has_devices inputs grown beside_grown ∙ sym (has_devices inputs c beside)

  same_wanted : wanted_of grown ≡ wanted_of c
  same_wanted = ap (λ w. set.union w (given_of c.gifts)) same_wants

  pub ready_grown : IsReady c → IsReady grown
  ready_grown ready = record {
    held = subst (λ d. AreAllowed d (held_of c)) (sym same_devices_grown) ready.held;
    wanted = subst (λ d. AreAllowed d (wanted_of grown)) (sym same_devices_grown) (subst (AreAllowed (settling_state.devices_of c)) (sym same_wanted) ready.wanted);
    lower = ready.lower;
    loses_link = λ g member held given. ready.loses_link g member held given ∙ sym (ap (λ w. loses_link c.graph.held w (name_of g.object)) same_wants);
    links = λ off. links_stay c.graph (with_name c.graph.known.names name) c.graph.held (ready.links off) (λ q h. more_names c.graph.known.names name q h) (λ o h. h);
    quiet = ready.quiet;
  }
