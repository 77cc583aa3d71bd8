-- Inputs by which the same reaches the same.
use Rattle.std.proofs.Common.{◌≡◌, ◌≢◌, ℕ, List, [], ◌∷◌, map, length, Bool, true, false, cond, Contains, Option, Some, None, refl, sym, ap, subst, ◌∙◌, bytes_eq, eqb-true, eq-eqb}
use Rattle.std.specs.Prelude.{not, ◌&&◌, ◌==◌, filter}
use Rattle.std.specs.List.{AllByRecursion, find}
use Rattle.std.specs.Option.{option_map, option_and_then}
use Rattle.plane_words.specs.Distinct.{AreDistinct}
use Rattle.kern_model.specs.declared.object.Device.{Device}
use Rattle.kern_model.specs.declared.object.DevEvent.TheVariants as device
use Rattle.kern_model.specs.Kernel.{with_carrier}
use Rattle.kern_model.proofs.MemberLemmas.{here, there}
use Rattle.kern_model.proofs.TestLemmas.{bytes_same, same_bytes, false_of_not}
use Rattle.net_rows.specs.declared.rows.Conf.{Conf}
use Rattle.net_rows.specs.declared.rows.InterfaceRow.{InterfaceRow}
use Rattle.net_rows.specs.declared.rows.RadioRow.{RadioRow}
use Rattle.net_rules.specs.declared.answer.Answer.{Answer}
use Rattle.net_rules.specs.declared.request.InterfaceRequest.{InterfaceRequest}
use Rattle.net_rules.specs.declared.inputs.Inputs.{Inputs}
use Rattle.net_rules.specs.declared.inputs.OpenInterface.{OpenInterface}
use Rattle.net_rules.specs.declared.inputs.OpenRadio.{OpenRadio}
use Rattle.net_rules.specs.declared.event.Event.TheVariants as event
use Rattle.net_rules.specs.Rows.{is_name, names_of}
use Rattle.net_rules.specs.Inputs.{open_interface}
use Rattle.net_rules.specs.After.{carrier_set, answered_interface, changed}
use Rattle.net_rules.proofs.TableLemmas.{found_in, first_some, found_behind, found_mapped, found_member}
use Rattle.net_rules.proofs.OnceLemmas.{AreOnce, kept_if, found_filter}
use Rattle.net_view.specs.Places.{place_of, is_place, HasPlaces}
use Rattle.net_view.specs.RadioPorts.{group_in}
use Rattle.net_wants.specs.Grouped.{HasItems, is_route_named}
use Rattle.known_inputs.specs.Known.{StandOnce}
use Rattle.known_inputs.specs.Steps.{has_number, request_of, with_request, without_request}
use Rattle.known_inputs.proofs.FoundLemmas.{found_numbered, found_named}
use Rattle.net_reach.specs.Groups.{Groups, HasGroups, HasMembers}
use Rattle.net_reach.specs.Reach.{IsReachOf, stands_on, told_l3_device, is_at_device, is_at_l3_device}
use Rattle.net_reach.specs.L3Devices.{ReachesAlikeBut, ReachesAlike, TellsL3Device}
use Rattle.net_reach.specs.declared.reach.Reach.{Reach}
use Rattle.net_reach.proofs.MemberLemmas.{same_members}

-- ---- all but the layer-3 devices

-- the groups by name are of the rows and of the answers of radios alone
above_moves : (before now : Inputs) (groups : Groups) → now.conf ≡ before.conf → now.radios ≡ before.radios → HasGroups groups (stands_on before) before.conf.names → HasGroups groups (stands_on now) now.conf.names
above_moves before now groups conf radios has =
    subst (λ (rs : List OpenRadio). HasGroups groups (stands_on (record now { radios = rs })) now.conf.names) (sym radios)
    (subst (λ (rows : Conf). HasGroups groups (stands_on (record before { conf = rows })) rows.names) (sym conf) has)

device_moves : (before now : Inputs) (groups : Groups) → now.conf ≡ before.conf → now.radios ≡ before.radios → HasGroups groups (is_at_device before) before.conf.interfaces → HasGroups groups (is_at_device now) now.conf.interfaces
device_moves before now groups conf radios has =
    subst (λ (rs : List OpenRadio). HasGroups groups (is_at_device (record now { radios = rs })) now.conf.interfaces) (sym radios)
    (subst (λ (rows : Conf). HasGroups groups (is_at_device (record before { conf = rows })) rows.interfaces) (sym conf) has)

pub reach_moves : (changes : List ℕ → Bool) (before now : Inputs) (reach : Reach) (groups : Groups) → ReachesAlikeBut changes before now → HasMembers groups (is_at_l3_device now) now.conf.interfaces → IsReachOf before reach
    → IsReachOf now (record reach { at_l3_device = groups })
reach_moves changes before now reach groups alike l3_devices is =
    let conf : before.conf ≡ now.conf = sym alike.conf in
    record {
      interfaces = subst (λ (rows : Conf). HasPlaces reach.interfaces (map (λ (row : InterfaceRow). row.name) rows.interfaces)) conf is.interfaces;
      radios = subst (λ (rows : Conf). HasPlaces reach.radios (map (λ (row : RadioRow). row.name) rows.radios)) conf is.radios;
      devices = subst (λ (names : List (List ℕ)). HasPlaces reach.devices names) (sym alike.devices) is.devices;
      rows = subst (λ (rows : Conf). HasPlaces reach.rows (names_of rows)) conf is.rows;
      names = is.names ∙ ap names_of conf;
      above = above_moves before now reach.above alike.conf alike.radios is.above;
      at_device = device_moves before now reach.at_device alike.conf alike.radios is.at_device;
      at_l3_device = l3_devices;
      routes = subst (λ (rows : Conf). HasItems reach.routes (is_route_named rows) rows.routes) conf is.routes;
      row_room = is.row_room ∙ ap (λ (rows : Conf). length rows.names) conf;
      place_room = is.place_room ∙ ap (λ (rows : Conf). length rows.interfaces) conf;
    }

-- ---- nothing else told

abbrev at : List InterfaceRow → (List ℕ → Option (List ℕ)) → List ℕ → ℕ → InterfaceRow → Bool
at rows told q place row = is_name (cond (is_place place (place_of (map (λ (r : InterfaceRow). r.name) rows) row.name)) (told row.name) None) q

same_at : (rows : List InterfaceRow) (old new : List ℕ → Option (List ℕ)) (q : List ℕ) (place : ℕ) (row : InterfaceRow) → new row.name ≡ old row.name → at rows new q place row ≡ at rows old q place row
same_at rows old new q place row same = ap (λ (o : Option (List ℕ)). is_name (cond (is_place place (place_of (map (λ (r : InterfaceRow). r.name) rows) row.name)) o None) q) same

pub alike_reach : (before now : Inputs) (reach : Reach) → ReachesAlike before now → IsReachOf before reach → IsReachOf now reach
alike_reach before now reach alike is =
    reach_moves (λ name. false) before now reach reach.at_l3_device alike
    (subst (λ (rows : Conf). HasMembers reach.at_l3_device (at rows.interfaces (told_l3_device now)) rows.interfaces) (sym alike.conf)
    (λ q. same_members (group_in reach.at_l3_device q) (at before.conf.interfaces (told_l3_device before) q) (at before.conf.interfaces (told_l3_device now) q) before.conf.interfaces
    (λ place row. same_at before.conf.interfaces (told_l3_device before) (told_l3_device now) q place row (alike.l3_devices row.name refl)) (is.at_l3_device q)))
    is

pub told_again : (before now : Inputs) (interface : List ℕ) (l3_device : Option (List ℕ)) → TellsL3Device before now interface l3_device l3_device → ReachesAlike before now
told_again before now interface l3_device tells = record {
  conf = tells.others.conf;
  radios = tells.others.radios;
  devices = tells.others.devices;
  l3_devices = λ name h. by name (bytes_eq name interface) refl;
}
  where
    by : (name : List ℕ) (b : Bool) → bytes_eq name interface ≡ b → told_l3_device now name ≡ told_l3_device before name
    by name true same = let is = bytes_same name interface same in ap (told_l3_device now) is ∙ tells.is_told ∙ sym tells.was_told ∙ ap (told_l3_device before) (sym is)
    by name false other = tells.others.l3_devices name other

-- ---- operator states, carriers, devices

pub operator_state_alike : (inputs : Inputs) (interface : List ℕ) (up : Bool) → ReachesAlike inputs (changed inputs (event.Operator interface up))
operator_state_alike inputs interface up = record { conf = refl; radios = refl; devices = refl; l3_devices = λ name h. refl }

carrier_step : (b : Bool) (name : List ℕ) (on : Bool) (e : List ℕ × Device) (ns ms : List (List ℕ)) → bytes_eq e.0 name ≡ b → ns ≡ ms → (carrier_set name on e).0 ∷ ns ≡ e.0 ∷ ms
carrier_step true name on e ns ms is same = ap (λ c. (cond c (e.0, with_carrier on e.1) e).0 ∷ ns) is ∙ ap (λ (z : List (List ℕ)). e.0 ∷ z) same
carrier_step false name on e ns ms is same = ap (λ c. (cond c (e.0, with_carrier on e.1) e).0 ∷ ns) is ∙ ap (λ (z : List (List ℕ)). e.0 ∷ z) same

names_stay : (name : List ℕ) (on : Bool) → (es : List (List ℕ × Device)) → map (λ (e : List ℕ × Device). e.0) (map (carrier_set name on) es) ≡ map (λ (e : List ℕ × Device). e.0) es
names_stay name on [] = refl
names_stay name on (e ∷ es) = carrier_step (bytes_eq e.0 name) name on e (map (λ (e : List ℕ × Device). e.0) (map (carrier_set name on) es)) (map (λ (e : List ℕ × Device). e.0) es) refl (names_stay name on es)

pub carrier_alike : (inputs : Inputs) (name : List ℕ) (on : Bool) → ReachesAlike inputs (changed inputs (event.Device (device.Carrier name on)))
carrier_alike inputs name on = record { conf = refl; radios = refl; devices = names_stay name on inputs.devices; l3_devices = λ name h. refl }

-- ---- asks

abbrev told_by : OpenInterface → Option (List ℕ)
told_by o = option_and_then (λ (answer : Answer). answer.device) o.answer

abbrev request_name : OpenInterface → List ℕ
request_name o = o.request.name

pub opened_alike : (inputs : Inputs) (request : InterfaceRequest) → ReachesAlike inputs (with_request inputs request)
opened_alike inputs request = record {
  conf = refl;
  radios = refl;
  devices = refl;
  l3_devices = λ name h. ap (option_and_then told_by) (found_behind request_name inputs.interfaces (opened ∷ []) name) ∙ none_told (bytes_eq request.name name) (open_interface inputs.interfaces name);
}
  where
    opened : OpenInterface
    opened = record { number = inputs.next; request = request; answer = None }

    none_told : (b : Bool) (o : Option OpenInterface) → option_and_then told_by (first_some o (cond b (Some opened) None)) ≡ option_and_then told_by o
    none_told true None = refl
    none_told false None = refl
    none_told b (Some o) = refl

module _ (interface : List ℕ) (number : ℕ) (answer : Answer) where
  abbrev told : OpenInterface → OpenInterface
  told = answered_interface interface number answer

  same_name : (o : OpenInterface) → request_name (told o) ≡ request_name o
  same_name o = by (bytes_eq o.request.name interface && (o.number == number))
    where
      by : (b : Bool) → request_name (cond b (record o { answer = Some answer }) o) ≡ request_name o
      by true = refl
      by false = refl

  open_told : (os : List OpenInterface) (name : List ℕ) → open_interface (map told os) name ≡ option_map told (open_interface os name)
  open_told os name = found_mapped request_name told same_name os name

  others_told : (os : List OpenInterface) (name : List ℕ) (found : Option OpenInterface) → open_interface os name ≡ found → bytes_eq name interface ≡ false → option_and_then told_by (option_map told found) ≡ option_and_then told_by found
  others_told os name None is other = refl
  others_told os name (Some o) is other =
      let same : o.request.name ≡ name = (found_member request_name os name o is).same in
      ap (λ b. told_by (cond (b && (o.number == number)) (record o { answer = Some answer }) o)) (ap (λ n. bytes_eq n interface) same ∙ other)

  one_told : (os : List OpenInterface) (o : OpenInterface) → open_interface os interface ≡ Some o → o.number ≡ number → told_by (told o) ≡ answer.device
  one_told os o is numbered =
      let same : o.request.name ≡ interface = (found_member request_name os interface o is).same in
      ap (λ b. told_by (cond (b && (o.number == number)) (record o { answer = Some answer }) o)) (same_bytes o.request.name interface same)
      ∙ ap (λ b. told_by (cond b (record o { answer = Some answer }) o)) (eq-eqb o.number number numbered)

pub answer_tells : (inputs : Inputs) (interface : List ℕ) (o : OpenInterface) (answer : Answer) → open_interface inputs.interfaces interface ≡ Some o
    → TellsL3Device inputs (changed inputs (event.Answer interface o.number answer)) interface (told_l3_device inputs interface) answer.device
answer_tells inputs interface o answer is = record {
  others = record {
    conf = refl;
    radios = refl;
    devices = refl;
    l3_devices = λ name other.
        ap (option_and_then told_by) (open_told interface o.number answer inputs.interfaces name)
        ∙ others_told interface o.number answer inputs.interfaces name (open_interface inputs.interfaces name) refl other;
  };
  was_told = refl;
  is_told =
      ap (option_and_then told_by) (open_told interface o.number answer inputs.interfaces interface)
      ∙ ap (λ (found : Option OpenInterface). option_and_then told_by (option_map (told interface o.number answer) found)) is
      ∙ one_told interface o.number answer inputs.interfaces o is refl;
}

-- ---- a request is closed

none_named : (key : OpenInterface → List ℕ) → (os : List OpenInterface) (name : List ℕ) → AllByRecursion (λ other. other ≢ name) (map key os) → found_in key os name ≡ None
none_named key [] name off = refl
none_named key (o ∷ os) name off =
    ap (λ b. cond b (Some o) (found_in key os name)) (false_of_not (bytes_eq (key o) name) (λ h. off.0 (bytes_same (key o) name h)))
    ∙ none_named key os name off.1

distinct_once : (key : OpenInterface → List ℕ) → (os : List OpenInterface) → AreDistinct (map key os) → AreOnce key os
distinct_once key [] once = tt
distinct_once key (o ∷ os) once = (none_named key os (key o) once.0, distinct_once key os once.1)

numbered_step : (number : ℕ) (y : OpenInterface) (ys : List OpenInterface) (o : OpenInterface) (b : Bool) → has_number number y ≡ b → (find (has_number number) ys ≡ Some o → Contains ys o × (o.number ≡ number))
    → cond b (Some y) (find (has_number number) ys) ≡ Some o → Contains (y ∷ ys) o × (o.number ≡ number)
numbered_step number y ys o true is rest h =
    let same : y ≡ o = cc h in
    (subst (Contains (y ∷ ys)) same (here y ys), ap (λ (x : OpenInterface). x.number) (sym same) ∙ eqb-true y.number number is)
numbered_step number y ys o false is rest h = let later = rest h in (there y ys o later.0, later.1)

numbered : (number : ℕ) → (os : List OpenInterface) (o : OpenInterface) → find (has_number number) os ≡ Some o → Contains os o × (o.number ≡ number)
numbered number [] o h = cc h
numbered number (y ∷ ys) o h = numbered_step number y ys o (has_number number y) refl (numbered number ys o) h

module _ (inputs : Inputs) (number : ℕ) (o : OpenInterface) (stand : StandOnce inputs) (is : request_of inputs number ≡ Some o) where
  abbrev left : OpenInterface → Bool
  left x = not (has_number number x)

  member : Contains inputs.interfaces o
  member = (numbered number inputs.interfaces o is).0

  o_number : o.number ≡ number
  o_number = (numbered number inputs.interfaces o is).1

  left_told : (name : List ℕ) → open_interface (filter left inputs.interfaces) name ≡ kept_if left (open_interface inputs.interfaces name)
  left_told name = found_filter request_name left inputs.interfaces (distinct_once request_name inputs.interfaces stand.requests.once) name

  others_left : (name : List ℕ) (found : Option OpenInterface) → open_interface inputs.interfaces name ≡ found → bytes_eq name o.request.name ≡ false → option_and_then told_by (kept_if left found) ≡ option_and_then told_by found
  others_left name None found other = refl
  others_left name (Some x) found other =
      let at = found_member request_name inputs.interfaces name x found in
      let apart : has_number number x ≡ false = false_of_not (has_number number x) (λ h. another x at.member at.same (eqb-true x.number number h)) in
      ap (λ b. option_and_then told_by (cond (not b) (Some x) None)) apart
    where
      another : (x : OpenInterface) → Contains inputs.interfaces x → x.request.name ≡ name → x.number ≡ number → ⊥
      another x inside same numbered_so =
          let mine = found_numbered inputs x stand inside in
          let theirs = found_numbered inputs o stand member in
          let one : x ≡ o = let both = sym mine ∙ ap (request_of inputs) (numbered_so ∙ sym o_number) ∙ theirs in cc both in
          let hit = same_bytes name o.request.name (sym same ∙ ap request_name one) in
          cc (other, hit)

  one_left : option_and_then told_by (kept_if left (open_interface inputs.interfaces o.request.name)) ≡ None
  one_left =
      ap (λ (found : Option OpenInterface). option_and_then told_by (kept_if left found)) (found_named inputs o stand member)
      ∙ ap (λ b. option_and_then told_by (cond (not b) (Some o) None)) (eq-eqb o.number number o_number)

  pub closed_tells : TellsL3Device inputs (without_request inputs number) o.request.name (told_l3_device inputs o.request.name) None
  closed_tells = record {
    others = record {
      conf = refl;
      radios = refl;
      devices = refl;
      l3_devices = λ name other.
          ap (option_and_then told_by) (left_told name)
          ∙ others_left name (open_interface inputs.interfaces name) refl other;
    };
    was_told = refl;
    is_told = ap (option_and_then told_by) (left_told o.request.name) ∙ one_left;
  }
