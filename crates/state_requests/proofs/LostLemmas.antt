-- The ask that is lost at a place.
use Rattle.std.proofs.Common.{ℕ, ◌≡◌, List, [], ◌∷◌, Bool, true, false, cond, Contains, Option, Some, None, refl, ap, sym, subst, ◌∙◌}
use Rattle.std.specs.Prelude.{not, ◌||◌, bytes_eq, slice_get}
use Rattle.std.specs.Option.{option_map, option_and_then}
use Rattle.kern_model.proofs.TestLemmas.{same_bytes, false_of_not}
use Rattle.kern_calls.proofs.FilterLemmas.{from_filter}
use Rattle.net_rows.specs.declared.rows.InterfaceRow.{InterfaceRow}
use Rattle.net_rules.specs.declared.answer.Answer.{Answer}
use Rattle.net_rules.specs.declared.request.InterfaceRequest.{InterfaceRequest}
use Rattle.net_rules.specs.declared.inputs.Inputs.{Inputs}
use Rattle.net_rules.specs.declared.inputs.OpenInterface.{OpenInterface}
use Rattle.net_rules.specs.Rows.{interface_named}
use Rattle.net_rules.specs.Need.{interface_request, interface_need, same_interface_request}
use Rattle.net_rules.specs.After.{interface_need_of, is_same_need}
use Rattle.net_rules.specs.Inputs.{facts_of, open_interface}
use Rattle.net_rules.proofs.ListLemmas.{within_filter}
use Rattle.net_rules.proofs.SameLemmas.{interface_requests}
use Rattle.net_rules.proofs.TableLemmas.{found_member}
use Rattle.net_rules.specs.Touched.{is_needed}
use Rattle.net_rules.proofs.AskedLemmas.{left_found}
use Rattle.known_inputs.specs.Known.{StandOnce}
use Rattle.known_inputs.specs.Steps.{request_of, without_request}
use Rattle.known_inputs.proofs.FoundLemmas.{found_numbered, found_named}
use Rattle.net_reach.specs.Reach.{IsReachOf, told_l3_device}
use Rattle.net_reach.specs.L3Devices.{TellsL3Device}
use Rattle.net_reach.proofs.AlikeLemmas.{closed_tells}
use Rattle.net_rules.specs.declared.state.InterfaceState.{InterfaceState}
use Rattle.net_rules.specs.States.{is_first}
use Rattle.net_rules.proofs.MoveLemmas.{some_is}
use Rattle.asked_places.specs.Touched.{is_touched}
use Rattle.asked_places.specs.Losing.{lost_number, lost_at, left_at}
use Rattle.asked_places.proofs.PlaceLemmas.{place_of_first, first_at_place, touched_one, touches_one}
use Rattle.asked_places.proofs.LostLemmas.{lost_of_row, one_left, one_lost}
use Rattle.net_states.specs.declared.states.States.{States}
use Rattle.net_states.specs.Kept.{number_of, IsNotedAs, IsRequestOf, IsAtHand, AreOwnRequests, IsTied}
use Rattle.state_requests.specs.Asking.{needs_request}
use Rattle.state_requests.proofs.RowLemmas.{first_found, OthersSame}
use Rattle.state_requests.proofs.KeptLemmas.{Moves}

-- ---- what is open, and needed

-- a request that is what its row is asked is needed where the row needs one
pub needed_is : (inputs : Inputs) (row : InterfaceRow) (o : OpenInterface) → interface_named inputs.conf row.name ≡ Some row → o.request.name ≡ row.name → o.request ≡ interface_request (facts_of inputs) row → is_needed (facts_of inputs) o
    ≡ needs_request (facts_of inputs) row
needed_is inputs row o found named own =
    ap (λ (need : Option InterfaceRequest). is_same_need same_interface_request need o.request) (ap (interface_need_of (facts_of inputs)) named ∙ ap (option_and_then (interface_need (facts_of inputs))) found)
    ∙ by (needs_request (facts_of inputs) row)
  where
    by : (b : Bool) → is_same_need same_interface_request (cond {A = Option InterfaceRequest} b (Some (interface_request (facts_of inputs) row)) None) o.request ≡ b
    by true = (interface_requests (interface_request (facts_of inputs) row) o.request).1 (sym own)
    by false = refl

-- the open request of a name that has a number
pub record IsOpenAs (inputs : Inputs) (name : List ℕ) (number : ℕ) : Type 0 where
  pub o : OpenInterface
  pub found : open_interface inputs.interfaces name ≡ Some o
  pub numbered : o.number ≡ number

pub open_as : (inputs : Inputs) (name : List ℕ) (number : ℕ) → number_of inputs name ≡ Some number → IsOpenAs inputs name number
open_as inputs name number is = by (open_interface inputs.interfaces name) refl is
  where
    by : (found : Option OpenInterface) → open_interface inputs.interfaces name ≡ found → option_map (λ (o : OpenInterface). o.number) found ≡ Some number → IsOpenAs inputs name number
    by None at h = cc h
    by (Some o) at h = record { o = o; found = at; numbered = some_is o.number number h }

pub none_open : (inputs : Inputs) (name : List ℕ) → number_of inputs name ≡ None → open_interface inputs.interfaces name ≡ None
none_open inputs name is = by (open_interface inputs.interfaces name) refl is
  where
    by : (found : Option OpenInterface) → open_interface inputs.interfaces name ≡ found → option_map (λ (o : OpenInterface). o.number) found ≡ None → open_interface inputs.interfaces name ≡ None
    by None at h = at
    by (Some o) at h = cc h

module _ (inputs : Inputs) (states : States) (tied : IsTied inputs states) (place : ℕ) (row : InterfaceRow) (st : InterfaceState) (at : slice_get inputs.conf.interfaces place ≡ Some row)
    (here_is : slice_get states.list.items place ≡ Some st) where
  abbrev rows : List InterfaceRow
  rows = inputs.conf.interfaces

  first_is : st.is_first ≡ is_first rows place row.name
  first_is = tied.noted.first place row st at here_is

  noted : IsNotedAs st.is_first inputs row st
  noted = tied.noted.each place row st at here_is

  -- a request with the name of the row is what the row is asked
  own_request : is_first rows place row.name ≡ true → (o : OpenInterface) → open_interface inputs.interfaces row.name ≡ Some o → o.request ≡ interface_request (facts_of inputs) row
  own_request first o found =
      let is = found_member (λ (x : OpenInterface). x.request.name) inputs.interfaces row.name o found in
      tied.own o row is.member (ap (interface_named inputs.conf) is.same ∙ first_found rows place row at first)

  named_request : (o : OpenInterface) → open_interface inputs.interfaces row.name ≡ Some o → o.request.name ≡ row.name
  named_request o found = (found_member (λ (x : OpenInterface). x.request.name) inputs.interfaces row.name o found).same

  needed_so : is_first rows place row.name ≡ true → (o : OpenInterface) → open_interface inputs.interfaces row.name ≡ Some o → is_needed (facts_of inputs) o ≡ needs_request (facts_of inputs) row
  needed_so first o found = needed_is inputs row o (first_found rows place row at first) (named_request o found) (own_request first o found)

  off_first : is_first rows place row.name ≡ false → lost_at inputs place ≡ None
  off_first off =
      ap (option_and_then (λ (r : InterfaceRow). cond {A = Option ℕ} (is_first rows place r.name) (lost_number (facts_of inputs) (open_interface inputs.interfaces r.name)) None)) at
      ∙ ap (λ b. cond {A = Option ℕ} b (lost_number (facts_of inputs) (open_interface inputs.interfaces row.name)) None) off

  -- where a request is needed none is lost
  pub needed_stays : needs_request (facts_of inputs) row ≡ true → lost_at inputs place ≡ None
  needed_stays needs = first (is_first rows place row.name) refl
    where
      found : is_first rows place row.name ≡ true → (o : Option OpenInterface) → open_interface inputs.interfaces row.name ≡ o → lost_number (facts_of inputs) o ≡ None
      found is None h = refl
      found is (Some o) h = ap (λ b. cond {A = Option ℕ} b None (Some o.number)) (needed_so is o h ∙ needs)

      first : (b : Bool) → is_first rows place row.name ≡ b → lost_at inputs place ≡ None
      first true is = lost_of_row inputs place row at is ∙ found is (open_interface inputs.interfaces row.name) refl
      first false is = off_first is

  -- where none is open none is lost
  pub unasked_stays : st.number ≡ None → lost_at inputs place ≡ None
  unasked_stays none = by st.is_first refl noted
    where
      by : (b : Bool) → st.is_first ≡ b → IsNotedAs b inputs row st → lost_at inputs place ≡ None
      by true is h =
          lost_of_row inputs place row at (sym first_is ∙ is)
          ∙ ap (lost_number (facts_of inputs)) (none_open inputs row.name (sym h.number ∙ none))
      by false is h = off_first (sym first_is ∙ is)

  module _ (number : ℕ) (numbered : st.number ≡ Some number) where
    pub is_the_first : st.is_first ≡ true
    is_the_first = by st.is_first refl noted
      where
        by : (b : Bool) → st.is_first ≡ b → IsNotedAs b inputs row st → st.is_first ≡ true
        by true is h = is
        by false is h = cc (h.number, numbered)

    pub open_here : IsOpenAs inputs row.name number
    open_here = by st.is_first is_the_first noted
      where
        by : (b : Bool) → b ≡ true → IsNotedAs b inputs row st → IsOpenAs inputs row.name number
        by true is h = open_as inputs row.name number (sym h.number ∙ numbered)
        by false is h = cc is

    pub row_first : is_first rows place row.name ≡ true
    row_first = sym first_is ∙ is_the_first

    module _ (once : StandOnce inputs) where
      member : Contains inputs.interfaces open_here.o
      member = (found_member (λ (x : OpenInterface). x.request.name) inputs.interfaces row.name open_here.o open_here.found).member

      -- the request is found by its number
      pub found_so : request_of inputs number ≡ Some open_here.o
      found_so = ap (request_of inputs) (sym open_here.numbered) ∙ found_numbered inputs open_here.o once member

      module _ (closed : OpenInterface) (is : request_of inputs number ≡ Some closed) (needless : needs_request (facts_of inputs) row ≡ false) where
        same_request : open_here.o ≡ closed
        same_request = some_is open_here.o closed (sym found_so ∙ is)

        unneeded : is_needed (facts_of inputs) open_here.o ≡ false
        unneeded = needed_so row_first open_here.o open_here.found ∙ needless

        pub left_is : left_at inputs (place ∷ []) ≡ without_request inputs number
        left_is = one_left inputs once place row open_here.o at row_first member (named_request open_here.o open_here.found) unneeded ∙ ap (without_request inputs) open_here.numbered

        pub lost_is : lost_at inputs place ≡ Some number
        lost_is = one_lost inputs once place row open_here.o at row_first member (named_request open_here.o open_here.found) unneeded ∙ ap (λ (k : ℕ). Some k) open_here.numbered

        closed_own : closed.request ≡ interface_request (facts_of inputs) row
        closed_own = ap (λ (x : OpenInterface). x.request) (sym same_request) ∙ own_request row_first open_here.o open_here.found

        pub closed_named : closed.request.name ≡ row.name
        closed_named = ap (λ (a : InterfaceRequest). a.name) closed_own

        pub closed_requests : IsRequestOf row closed.request
        closed_requests = record {
          name = ap (λ (a : InterfaceRequest). a.name) closed_own;
          proto = ap (λ (a : InterfaceRequest). a.proto) closed_own;
          options = ap (λ (a : InterfaceRequest). a.options) closed_own;
        }

        -- what the last answer told is no longer told
        pub tells_none : TellsL3Device inputs (left_at inputs (place ∷ [])) row.name (option_and_then (λ (answer : Answer). answer.device) closed.answer) None
        tells_none =
            let found : open_interface inputs.interfaces closed.request.name ≡ Some closed = found_named inputs closed once (subst (Contains inputs.interfaces) same_request member) in
            let told : told_l3_device inputs closed.request.name ≡ option_and_then (λ (answer : Answer). answer.device) closed.answer =
            ap (λ (o : Option OpenInterface). option_and_then (λ (x : OpenInterface). option_and_then (λ (answer : Answer). answer.device) x.answer) o) found in
            subst (λ (q : List ℕ). TellsL3Device inputs (left_at inputs (place ∷ [])) q (option_and_then (λ (answer : Answer). answer.device) closed.answer) None) closed_named
            (subst (λ (now : Inputs). TellsL3Device inputs now closed.request.name (option_and_then (λ (answer : Answer). answer.device) closed.answer) None) (sym left_is)
            (subst (λ (was : Option (List ℕ)). TellsL3Device inputs (without_request inputs number) closed.request.name was None) told (closed_tells inputs number closed once is)))

        -- ---- what is left of the requests

        abbrev pub left : List OpenInterface
        left = (left_at inputs (place ∷ [])).interfaces

        on_place : is_touched rows (place ∷ []) row.name ≡ true
        on_place = touches_one rows place row.name (place_of_first rows place row at row_first)

        others_left : OthersSame inputs left inputs.next row.name
        others_left q other = left_found (facts_of inputs) (is_touched rows (place ∷ [])) q (false_of_not (is_touched rows (place ∷ []) q) (λ h.
            let there = first_at_place rows q place (touched_one rows place q h) in
            let one : there.row ≡ row = some_is there.row row (sym there.at ∙ at) in
            let same : q ≡ row.name = sym there.named ∙ ap (λ (r : InterfaceRow). r.name) one in
            let yes : bytes_eq q row.name ≡ true = same_bytes q row.name same in
            cc (other, yes))) inputs.interfaces

        abbrev stays : OpenInterface → Bool
        stays x = not (is_touched rows (place ∷ []) x.request.name) || is_needed (facts_of inputs) x

        gone : open_interface left row.name ≡ None
        gone = by (open_interface left row.name) refl
          where
            by : (found : Option OpenInterface) → open_interface left row.name ≡ found → open_interface left row.name ≡ None
            by None is = is
            by (Some x) is =
                let at_name = found_member (λ (y : OpenInterface). y.request.name) left row.name x is in
                let inside : Contains inputs.interfaces x = within_filter stays inputs.interfaces x at_name.member in
                let one : open_here.o ≡ x = some_is open_here.o x (sym open_here.found ∙ ap (open_interface inputs.interfaces) (sym at_name.same) ∙ found_named inputs x once inside) in
                let off : is_needed (facts_of inputs) x ≡ false = ap (is_needed (facts_of inputs)) (sym one) ∙ unneeded in
                let touched : is_touched rows (place ∷ []) x.request.name ≡ true = ap (is_touched rows (place ∷ [])) at_name.same ∙ on_place in
                let fails : stays x ≡ false = ap (λ b. not b || is_needed (facts_of inputs) x) touched ∙ off in
                let passes : stays x ≡ true = from_filter stays inputs.interfaces x at_name.member in
                cc (fails, passes)

        own_left : AreOwnRequests (left_at inputs (place ∷ []))
        own_left o r inside found = tied.own o r (within_filter stays inputs.interfaces o inside) found

        pub lost_moves : (now : States) → IsAtHand row (slice_get now.spare.items place) → IsReachOf (left_at inputs (place ∷ [])) now.reach → Moves inputs left inputs.next place row None now
        lost_moves now hand reach = record {
          others = others_left;
          silent = ap (option_and_then (λ (o : OpenInterface). o.answer)) gone;
          number = sym (ap (option_map (λ (o : OpenInterface). o.number)) gone);
          hand = λ none. hand;
          own = own_left;
          reach = reach;
        }
