-- A graph, and the gifts above it, are told what happens to a device.
use Rattle.std.proofs.Common.{arith, ℕ, zero, suc, ◌≡◌, ◌<◌, List, [], ◌∷◌, length, Bool, true, false, cond, Contains, Option, Some, None, refl, ap, sym, subst, ◌∙◌}
use Rattle.std.specs.Prelude.{not, bytes_eq, is_some, position, Result, Ok, Err, OnOk, IfOk}
use Rattle.std.specs.Option.{option_map, option_map_or}
use Rattle.kern_model.specs.declared.object.Device.{Device}
use Rattle.kern_model.specs.ObjectOrder.{Objects}
use Rattle.kern_model.specs.Standing.{gone, stands_on}
use Rattle.kern_model.proofs.SetLemmas.{of_retained}
use Rattle.kern_model.proofs.TestLemmas.{bytes_same, same_bytes}
use Rattle.uci_tree.proofs.FoldLemmas.{position-cons}
use Rattle.net_rules.specs.declared.inputs.Inputs.{Inputs}
use Rattle.net_rules.specs.Inputs.{facts_of, device_in}
use Rattle.net_rules.specs.Moment.{AreWithin}
use Rattle.graph_rules.specs.State.{Named, Known, State, name_list, named_in, claims_among, place_among}
use Rattle.graph_rules.specs.After.{name_at, with_device, with_name, left_by, with_names, absent_after, added_after}
use Rattle.graph_rules.specs.declared.ids.DevId.{DevId}
use Rattle.graph_names.proofs.NameLemmas.{lacks}
use Rattle.graph_counts.proofs.AnswerLemmas.{device_spelled}
use Rattle.graph_laws.specs.Below.{AgreesBelow}
use Rattle.graph_laws.specs.Knowing.{KnowsRows}
use Rattle.graph_laws.specs.Links.{HoldsLinksOfRows}
use Rattle.graph_laws.proofs.LostLinkLemmas.{links_stay}
use Rattle.state_requests.specs.SettlingState.{SettlingState, IsReady}
use Rattle.state_requests.specs.Leaving.{left_gifts}
use Rattle.settling_laws.specs.Beside.{HoldsLower, AreQuiet}
use Rattle.settling_laws.proofs.DeviceLemmas.{at_place}
use Rattle.settling_laws.proofs.QuietLemmas.{quiet_left}
use Rattle.state_requests.specs.Claiming.{HasClaims}
use Rattle.net_rules.specs.declared.state.InterfaceState.{InterfaceState}
use Rattle.net_rules.proofs.MoveLemmas.{some_is}
use Rattle.net_follow.specs.InStep.{IsCalm}

-- ---- the name of an id

name_there : (ns : List Named) (name : List ℕ) (id : ℕ) → place_among ns name ≡ Some id → (name_at ns id).name ≡ name
name_there [] name id place = cc place
name_there (n ∷ ns) name id place = by (bytes_eq name n.name) refl (place_among ns name) refl (sym (position-cons (bytes_eq name) n.name (name_list ns)) ∙ place) (name_there ns name)
  where
    by : (b : Bool) → bytes_eq name n.name ≡ b → (o : Option ℕ) → place_among ns name ≡ o → cond {A = Option ℕ} b (Some 0) (option_map (λ k. suc k) o) ≡ Some id → ((k : ℕ) → place_among ns name ≡ Some k → (name_at ns k).name ≡ name)
        → (name_at (n ∷ ns) id).name ≡ name
    by true is o there e rest = subst (λ k. (name_at (n ∷ ns) k).name ≡ name) (some_is 0 id e) (sym (bytes_same name n.name is))
    by false is None there e rest = cc e
    by false is (Some k) there e rest = subst (λ j. (name_at (n ∷ ns) j).name ≡ name) (some_is (suc k) id e) (rest k there)

pub id_within : (ns : List Named) (name : List ℕ) (id : ℕ) → place_among ns name ≡ Some id → id < length ns
id_within [] name id place = cc place
id_within (n ∷ ns) name id place = by (bytes_eq name n.name) (place_among ns name) refl (sym (position-cons (bytes_eq name) n.name (name_list ns)) ∙ place) (id_within ns name)
  where
    by : (b : Bool) (o : Option ℕ) → place_among ns name ≡ o → cond {A = Option ℕ} b (Some 0) (option_map (λ k. suc k) o) ≡ Some id → ((k : ℕ) → place_among ns name ≡ Some k → k < length ns) → id < length (n ∷ ns)
    by true o there e rest = let is : 0 ≡ id = some_is 0 id e in omega (arith, is)
    by false None there e rest = cc e
    by false (Some k) there e rest =
        let is : suc k ≡ id = some_is (suc k) id e in
        let less : k < length ns = rest k there in
        omega (arith, is, less)

-- a further name stands at the end
place_added : (ns : List Named) (name : List ℕ) → place_among ns name ≡ None → place_among (with_name ns name) name ≡ Some (length ns)
place_added [] name none =
    position-cons (bytes_eq name) name []
    ∙ ap (λ b. cond {A = Option ℕ} b (Some 0) (option_map (λ k. suc k) (position (bytes_eq name) []))) (same_bytes name name refl)
place_added (n ∷ ns) name none =
    let apart = lacks name n ns none in
    position-cons (bytes_eq name) n.name (name_list (with_name ns name))
    ∙ ap (λ b. cond {A = Option ℕ} b (Some 0) (option_map (λ k. suc k) (place_among (with_name ns name) name))) apart.0
    ∙ ap (option_map (λ k. suc k)) (place_added ns name apart.1)

pub known_added : {E : Type 0} (result : Result DevId E) (old new : State) (name : List ℕ) → place_among old.known.names name ≡ None → OnOk result (new ≡ added_after old name) → IfOk result (λ id. id.0 ≡ length old.known.names)
    → IfOk result (λ id. place_among new.known.names name ≡ Some id.0)
known_added (Ok id) old new name none ok is = ap (λ (s : State). place_among s.known.names name) ok ∙ place_added old.known.names name none ∙ ap Some (sym is)
known_added (Err e) old new name none ok is = tt

-- ---- claims stay

claims_here : (m : Named) (found : Option Named) (d : Option Device) (b : Bool) → option_map_or (λ (n : Named). n.claims) (cond b (Some (record m { device = d })) found) 0 ≡ option_map_or (λ (n : Named). n.claims) (cond b (Some m) found) 0
claims_here m found d true = refl
claims_here m found d false = refl

claims_later : (m : Named) (now before : Option Named) (b : Bool) → option_map_or (λ (n : Named). n.claims) now 0 ≡ option_map_or (λ (n : Named). n.claims) before 0 → option_map_or (λ (n : Named). n.claims) (cond b (Some m) now) 0
    ≡ option_map_or (λ (n : Named). n.claims) (cond b (Some m) before) 0
claims_later m now before true rest = refl
claims_later m now before false rest = rest

claims_with : (ns : List Named) (id : ℕ) (d : Option Device) (q : List ℕ) → claims_among (with_device ns id d) q ≡ claims_among ns q
claims_with [] id d q = refl
claims_with (m ∷ ms) zero d q = claims_here m (named_in ms q) d (bytes_eq m.name q)
claims_with (m ∷ ms) (suc id) d q = claims_later m (named_in (with_device ms id d) q) (named_in ms q) (bytes_eq m.name q) (claims_with ms id d q)

-- ---- a graph with another device, which may hold less

-- what goes with a device was held
within_left : (d : Option Device) (name : List ℕ) (held : Objects) → AreWithin (left_by d name held) held
within_left None name held = λ o has. has
within_left (Some d) name held = λ o has. (of_retained held (λ x. not (stands_on held name x)) o has).0

module _ (s : State) (id : ℕ) (d : Option Device) where
  pub knows_told : KnowsRows s.known → KnowsRows (with_names s (with_device s.known.names id d)).known
  knows_told knows = λ name member. subst (λ (names : List (List ℕ)). Contains names name) (sym (device_spelled s.known.names id d)) (knows name member)

  pub claims_told : (list : List InterfaceState) → HasClaims list s.known → HasClaims list (with_names s (with_device s.known.names id d)).known
  claims_told list has = λ name. claims_with s.known.names id d name ∙ has name

  links_told : (held : Objects) → AreWithin held s.held → HoldsLinksOfRows s → HoldsLinksOfRows (record (with_names s (with_device s.known.names id d)) { held = held })
  links_told held within holds = links_stay s (with_device s.known.names id d) held holds (λ name member. subst (λ (names : List (List ℕ)). Contains names name) (sym (device_spelled s.known.names id d)) member) within

-- another device leaves all calm
pub calm_told : (c : SettlingState) (id : ℕ) (d : Option Device) → IsReady c → IsCalm (record c { graph = with_names c.graph (with_device c.graph.known.names id d) })
calm_told c id d ready = record {
  lower = ready.lower;
  links = λ off. links_told c.graph id d c.graph.held (λ o has. has) (ready.links off);
  quiet = ready.quiet;
}

-- so does one that leaves
pub calm_left : (c now : SettlingState) (id : ℕ) → now.graph ≡ absent_after c.graph id → now.gifts ≡ left_gifts now.graph c.gifts → now.may_lose_link ≡ c.may_lose_link → IsReady c → IsCalm now
calm_left c now id graph_is gifts may ready =
    let named : Named = name_at c.graph.known.names id in
    let within : AreWithin (left_by named.device named.name c.graph.held) c.graph.held = within_left named.device named.name c.graph.held in
    record {
      lower = subst HoldsLower (sym graph_is) (λ o has. ready.lower o (within o has));
      links = λ off. subst HoldsLinksOfRows (sym graph_is) (links_told c.graph id None (left_by named.device named.name c.graph.held) within (ready.links (sym may ∙ off)));
      quiet = λ off. subst AreQuiet (sym gifts) (quiet_left now.graph c.gifts (ready.quiet (sym may ∙ off)));
    }

-- ---- what is held then

left_is : (o : Option Device) (name : List ℕ) (held : Objects) → is_some o ≡ true → left_by o name held ≡ gone held name
left_is None name held there = cc there
left_is (Some d) name held there = refl

-- all that stands on a present device goes with it
pub held_left : (inputs : Inputs) (s : Known) (name : List ℕ) (id : ℕ) (held : Objects) → AgreesBelow (facts_of inputs) s → place_among s.names name ≡ Some id → is_some (device_in inputs.devices name) ≡ true
    → left_by (name_at s.names id).device (name_at s.names id).name held ≡ gone held name
held_left inputs s name id held below place there =
    let device : (name_at s.names id).device ≡ device_in inputs.devices name = sym (at_place s.names name id place) ∙ below.devices name in
    ap (λ (x : List ℕ). left_by (name_at s.names id).device x held) (name_there s.names name id place)
    ∙ left_is (name_at s.names id).device name held (ap is_some device ∙ there)
