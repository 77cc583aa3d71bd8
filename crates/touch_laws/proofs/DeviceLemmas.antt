-- What happens to a device touches the interfaces above it.
use Rattle.std.proofs.Common.{ℕ, ◌≡◌, List, Contains, Bool, true, false, Option, Some, None, refl, ap, sym, ◌∙◌}
use Rattle.std.specs.Prelude.{◌↔◌, ◌||◌, if◌then◌else◌}
use Rattle.std.specs.Option.{option_and_then}
use Rattle.kern_model.specs.declared.object.DevEvent.{DevEvent}
use Rattle.kern_model.proofs.TestLemmas.{of_left, of_right, same_bytes}
use Rattle.net_rows.specs.declared.rows.InterfaceRow.{InterfaceRow}
use Rattle.net_rules.specs.declared.answer.Answer.{Answer}
use Rattle.net_rules.specs.declared.inputs.Inputs.{Inputs}
use Rattle.net_rules.specs.declared.inputs.OpenInterface.{OpenInterface}
use Rattle.net_rules.specs.declared.event.Event.TheVariants as event
use Rattle.net_rules.specs.Rows.{is_name, interfaces_of, asks_nothing}
use Rattle.net_rules.specs.RadioPorts.{device_of}
use Rattle.net_rules.specs.Interfaces.{device_or_own, l3_device_of}
use Rattle.net_rules.specs.Inputs.{facts_of, open_interface}
use Rattle.net_rules.specs.After.{changed, asked, after}
use Rattle.net_rules.specs.Notices.{notices_between}
use Rattle.net_rules.specs.Fresh.{IsReached}
use Rattle.net_rules.specs.Reach.{name_of}
use Rattle.net_rules.specs.Above.{IsAbove, IsOffBase, DiffersAt}
use Rattle.net_rules.specs.Touched.{HasSameRequests, NeedsStay, asked_of}
use Rattle.net_rules.proofs.AboveLemmas.{above_stays, places_stay, needs_off, uses_off, needs_stay}
use Rattle.net_rules.proofs.TouchEventLemmas.{device_differs}
use Rattle.net_rules.proofs.AskedLemmas.{asked_then}
use Rattle.net_rules.proofs.ToldLemmas.{told_then}
use Rattle.net_view.specs.Places.{is_place}
use Rattle.net_reach.specs.Reach.{told_l3_device, interface_place, l3_device_at, is_at_device, is_at_l3_device, IsTouched, AreTouched}
use Rattle.asked_places.specs.Touched.{is_touched}
use Rattle.touch_laws.specs.Staying.{StaysAs, FollowTouched}
use Rattle.touch_laws.proofs.PlaceLemmas.{StandsAt, first_stands, itself, touched_at}

-- the layer-3 device of an interface is its device, or that of the latest answer
told_by : (found : Option OpenInterface) → option_and_then (λ (a : Answer). a.device) (option_and_then (λ (o : OpenInterface). o.answer) found)
    ≡ option_and_then (λ (o : OpenInterface). option_and_then (λ (a : Answer). a.device) o.answer) found
told_by None = refl
told_by (Some o) = refl

module _ (inputs : Inputs) (row : InterfaceRow) (name : List ℕ) (place : ℕ) (first : interface_place inputs.conf row.name ≡ Some place) where
  abbrev own : Option (List ℕ)
  own = device_of (facts_of inputs) row

  abbrev told : Option (List ℕ)
  told = option_and_then (λ (a : Answer). a.device) ((facts_of inputs).answer row.name)

  -- the first row of a name has the answers for it
  l3_device_is : l3_device_at inputs place row ≡ told_l3_device inputs row.name
  l3_device_is = ap (λ (b : Bool). let o : Option (List ℕ) = if b then told_l3_device inputs row.name else None in o) (ap (is_place place) first ∙ itself place)

  at_own : own ≡ Some name → (is_at_device inputs name row || is_at_l3_device inputs name place row) ≡ true
  at_own is = of_left (is_at_device inputs name row) (is_at_l3_device inputs name place row) (ap (λ d. is_name d name) is ∙ same_bytes name name refl)

  at_told : told ≡ Some name → (is_at_device inputs name row || is_at_l3_device inputs name place row) ≡ true
  at_told is = of_right (is_at_device inputs name row) (is_at_l3_device inputs name place row) (ap (λ d. is_name d name) (l3_device_is ∙ sym (told_by (open_interface inputs.interfaces row.name)) ∙ is) ∙ same_bytes name name refl)

  by_told : (d : Option (List ℕ)) → told ≡ d → device_or_own d own ≡ Some name → (is_at_device inputs name row || is_at_l3_device inputs name place row) ≡ true
  by_told None is l3_device = at_own l3_device
  by_told (Some d) is l3_device = at_told (is ∙ l3_device)

  l3_device_by : (b : Bool) → asks_nothing row.proto ≡ b → l3_device_of (facts_of inputs) row ≡ Some name → (is_at_device inputs name row || is_at_l3_device inputs name place row) ≡ true
  l3_device_by true none l3_device = at_own (sym (ap (λ b. device_or_own (option_and_then (λ (a : Answer). a.device) (if b then None else (facts_of inputs).answer row.name)) own) none) ∙ l3_device)
  l3_device_by false some l3_device = by_told told refl (sym (ap (λ b. device_or_own (option_and_then (λ (a : Answer). a.device) (if b then None else (facts_of inputs).answer row.name)) own) some) ∙ l3_device)

  pub at_l3_device_of : l3_device_of (facts_of inputs) row ≡ Some name → (is_at_device inputs name row || is_at_l3_device inputs name place row) ≡ true
  at_l3_device_of l3_device = l3_device_by (asks_nothing row.proto) refl l3_device

  pub at_device_of : device_of (facts_of inputs) row ≡ Some name → (is_at_device inputs name row || is_at_l3_device inputs name place row) ≡ true
  at_device_of is = at_own is

-- an interface that is not touched is at no name above
module _ (inputs : Inputs) (base : List ℕ) (places : List ℕ) (are : AreTouched inputs base places) (row : InterfaceRow) (member : Contains (interfaces_of inputs.conf) row)
    (off : is_touched inputs.conf.interfaces places row.name ≡ false) where
  abbrev stands : StandsAt inputs.conf row
  stands = first_stands inputs.conf row member

  not_at : (name : List ℕ) → (is_at_device inputs name row || is_at_l3_device inputs name stands.place row) ≡ true → IsAbove (facts_of inputs) base name → ⊥
  not_at name at above =
      let inside = are.all stands.place (record { row = row; found = stands.found; name = name; at = at; above = above }) in
      let on = touched_at inputs.conf.interfaces places row.name stands.place stands.is inside in
      cc (on, off)

  off_by : (d : Option (List ℕ)) → ((name : List ℕ) → d ≡ Some name → (is_at_device inputs name row || is_at_l3_device inputs name stands.place row) ≡ true) → IsOffBase (facts_of inputs) base d
  off_by None at = tt
  off_by (Some name) at = not_at name (at name refl)

  pub device_off : IsOffBase (facts_of inputs) base (device_of (facts_of inputs) row)
  device_off = off_by (device_of (facts_of inputs) row) (λ name is. at_device_of inputs row name stands.place stands.is is)

  pub l3_device_off : IsOffBase (facts_of inputs) base (l3_device_of (facts_of inputs) row)
  l3_device_off = off_by (l3_device_of (facts_of inputs) row) (λ name is. at_l3_device_of inputs row name stands.place stands.is is)

module _ (inputs : Inputs) (what : DevEvent) where
  abbrev now : Inputs
  now = changed inputs (event.Device what)

  differs : DiffersAt (name_of what) (facts_of inputs) (facts_of now)
  differs = device_differs inputs what

  module _ (places : List ℕ) (are : AreTouched inputs (name_of what) places) where
    abbrev touched : List ℕ → Bool
    touched = is_touched inputs.conf.interfaces places

    pub stays_as : (row : InterfaceRow) → Contains (interfaces_of inputs.conf) row → touched row.name ≡ false → StaysAs (facts_of inputs) (facts_of now) row
    stays_as row member off =
        let places_are = places_stay (facts_of inputs) (facts_of now) (name_of what) differs row in
        let device = device_off inputs (name_of what) places are row member off in
        let needs = needs_off (facts_of inputs) (facts_of now) (name_of what) differs row device in
        let uses = uses_off (facts_of inputs) (facts_of now) (name_of what) differs row device (l3_device_off inputs (name_of what) places are row member off) in
        record { device = places_are.0; l3_device = places_are.1; claimed = needs.0; up = uses.0; need = needs.1; gives = uses.1 }

    needs_are : NeedsStay (facts_of inputs) (facts_of now) touched
    needs_are = needs_stay (facts_of inputs) (facts_of now) (name_of what) differs touched (λ row member off. device_off inputs (name_of what) places are row member off)

    same_requests : HasSameRequests inputs now
    same_requests = record { conf = refl; interfaces = refl; radios = refl; next = refl }

    after_is : after inputs (event.Device what) ≡ asked now
    unfolding after
    after_is = refl

    pub follows : IsReached inputs → FollowTouched inputs (event.Device what) touched
    follows reached =
        let requests : after inputs (event.Device what) ≡ asked_of touched now = after_is ∙ asked_then inputs now touched reached same_requests needs_are in
        record { follow = requests; told = ap (notices_between inputs) requests ∙ told_then inputs now touched reached same_requests }

  -- the walk finds the same before and after
  touched_then : (base : List ℕ) (place : ℕ) → IsTouched inputs base place → IsTouched now base place
  touched_then base place is = record {
    row = is.row;
    found = is.found;
    name = is.name;
    at = ap (λ d. is_name d is.name || is_at_l3_device inputs is.name place is.row) (places_stay (facts_of inputs) (facts_of now) (name_of what) differs is.row).0 ∙ is.at;
    above = (above_stays (facts_of inputs) (facts_of now) (name_of what) differs base is.name).0 is.above;
  }

  touched_before : (base : List ℕ) (place : ℕ) → IsTouched now base place → IsTouched inputs base place
  touched_before base place is = record {
    row = is.row;
    found = is.found;
    name = is.name;
    at = ap (λ d. is_name d is.name || is_at_l3_device inputs is.name place is.row) (sym (places_stay (facts_of inputs) (facts_of now) (name_of what) differs is.row).0) ∙ is.at;
    above = (above_stays (facts_of inputs) (facts_of now) (name_of what) differs base is.name).1 is.above;
  }

  pub same_walk : (places : List ℕ) → AreTouched now (name_of what) places ↔ AreTouched inputs (name_of what) places
  same_walk places = (
    λ are. record { rising = are.rising; all = λ place is. are.all place (touched_then (name_of what) place is); only = λ place h. touched_before (name_of what) place (are.only place h) },
    λ are. record { rising = are.rising; all = λ place is. are.all place (touched_before (name_of what) place is); only = λ place h. touched_then (name_of what) place (are.only place h) },
  )
