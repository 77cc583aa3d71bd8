-- The ask that is opened at a place.
use Rattle.std.proofs.Common.{◌⊎◌, inl, inr, ℕ, ◌≡◌, ◌+◌, List, [], ◌∷◌, ◌++◌, map, Bool, true, false, cond, Contains, Option, Some, None, refl, ap, sym, subst, ◌∙◌}
use Rattle.std.specs.Prelude.{not, ◌&&◌, bytes_eq, is_none, option_to_list, position, slice_get, unwrap_or}
use Rattle.std.specs.Option.{option_map, option_and_then}
use Rattle.kern_model.proofs.MemberLemmas.{here, there, first_or_later, none_in_nil}
use Rattle.kern_model.proofs.TestLemmas.{same_bytes}
use Rattle.net_rows.specs.declared.rows.InterfaceRow.{InterfaceRow}
use Rattle.net_rules.specs.declared.request.InterfaceRequest.{InterfaceRequest}
use Rattle.net_rules.specs.declared.event.Notice.TheVariants as notice
use Rattle.net_rules.specs.declared.inputs.Inputs.{Inputs}
use Rattle.net_rules.specs.declared.inputs.OpenInterface.{OpenInterface}
use Rattle.net_rules.specs.Rows.{asks_nothing, interface_named}
use Rattle.net_rules.specs.Interfaces.{is_ready}
use Rattle.net_rules.specs.Need.{interface_request, interface_need}
use Rattle.net_rules.specs.Inputs.{facts_of, open_interface}
use Rattle.net_rules.specs.After.{opened_interfaces}
use Rattle.net_rules.specs.Notices.{interface_notice}
use Rattle.net_rules.proofs.TableLemmas.{either_way, first_some, found_behind}
use Rattle.known_inputs.specs.Steps.{place_of, with_request}
use Rattle.net_reach.specs.Reach.{IsReachOf}
use Rattle.net_reach.proofs.AlikeLemmas.{alike_reach, opened_alike}
use Rattle.net_rules.specs.declared.state.InterfaceState.{InterfaceState}
use Rattle.net_rules.specs.States.{is_first}
use Rattle.net_rules.proofs.MoveLemmas.{some_is}
use Rattle.asked_places.specs.Touched.{names_of_rows}
use Rattle.asked_places.specs.Opening.{opened_row, opened_at, with_opened, opened_after, opened_notices}
use Rattle.asked_places.proofs.PlaceLemmas.{place_of_first}
use Rattle.net_states.specs.declared.states.States.{States}
use Rattle.net_states.specs.Kept.{IsNoted, IsNotedAs, IsRequestOf, IsAtHand, AreOwnRequests, IsTied}
use Rattle.state_requests.specs.Asking.{needs_request, lacks_request}
use Rattle.state_requests.specs.Telling.{notice_of}
use Rattle.state_requests.proofs.RowLemmas.{first_found, position_named, OthersSame}
use Rattle.state_requests.proofs.KeptLemmas.{Moves}
use Rattle.state_requests.proofs.LostLemmas.{none_open}

-- members of two lists
in_either : {X : Type 0} (xs ys : List X) (x : X) → Contains (xs ++ ys) x → Contains xs x ⊎ Contains ys x
in_either [] ys x inside = inr inside
in_either (z ∷ zs) ys x inside = elim (first_or_later z (zs ++ ys) x inside) as (λ _. Contains (z ∷ zs) x ⊎ Contains ys x) [
  | inl same ↦ inl (subst (Contains (z ∷ zs)) same (here z zs))
  | inr later ↦ elim (in_either zs ys x later) as (λ _. Contains (z ∷ zs) x ⊎ Contains ys x) [
    | inl left ↦ inl (there z zs x left)
    | inr right ↦ inr right
  ]
]

nothing_behind : {X : Type 0} (o : Option X) → first_some o None ≡ o
nothing_behind None = refl
nothing_behind (Some x) = refl

module _ (inputs : Inputs) (states : States) (tied : IsTied inputs states) (place : ℕ) (row : InterfaceRow) (st : InterfaceState) (at : slice_get inputs.conf.interfaces place ≡ Some row)
    (here_is : slice_get states.list.items place ≡ Some st) where
  abbrev rows : List InterfaceRow
  rows = inputs.conf.interfaces

  first_is : st.is_first ≡ is_first rows place row.name
  first_is = tied.noted.first place row st at here_is

  noted : IsNotedAs st.is_first inputs row st
  noted = tied.noted.each place row st at here_is

  row_opens : opened_at inputs place ≡ opened_row inputs place row
  row_opens = ap (option_and_then (opened_row inputs place)) at

  -- what is opened depends on the test
  abbrev opened_by : Bool → Option InterfaceRequest
  opened_by b = cond {A = Option InterfaceRequest} b (Some (interface_request (facts_of inputs) row)) None

  same_number : st.is_first ≡ true → IsNotedAs st.is_first inputs row st → is_none (open_interface inputs.interfaces row.name) ≡ is_none st.number
  same_number is h = by st.is_first is h
    where
      counted : (o : Option OpenInterface) → is_none o ≡ is_none (option_map (λ (x : OpenInterface). x.number) o)
      counted None = refl
      counted (Some o) = refl

      by : (b : Bool) → b ≡ true → IsNotedAs b inputs row st → is_none (open_interface inputs.interfaces row.name) ≡ is_none st.number
      by true is h = counted (open_interface inputs.interfaces row.name) ∙ ap (λ (o : Option ℕ). is_none o) (sym h.number)
      by false is h = cc is

  pub opens_where : opened_at inputs place ≡ opened_by (lacks_request (facts_of inputs) row st)
  opens_where = row_opens ∙ first st.is_first refl
    where
      tests : (none needs : Bool) → cond {A = Option InterfaceRequest} none (opened_by needs) None ≡ opened_by (none && needs)
      tests true needs = refl
      tests false needs = refl

      first : (b : Bool) → st.is_first ≡ b → opened_row inputs place row ≡ opened_by (lacks_request (facts_of inputs) row st)
      first true is =
          ap (λ b. cond {A = Option InterfaceRequest} (b && is_none (open_interface inputs.interfaces row.name)) (interface_need (facts_of inputs) row) None) (sym first_is ∙ is)
          ∙ ap (λ b. cond {A = Option InterfaceRequest} b (interface_need (facts_of inputs) row) None) (same_number is noted)
          ∙ tests (is_none st.number) (needs_request (facts_of inputs) row)
          ∙ ap (λ b. opened_by ((b && is_none st.number) && needs_request (facts_of inputs) row)) (sym is)
      first false is =
          ap (λ b. cond {A = Option InterfaceRequest} (b && is_none (open_interface inputs.interfaces row.name)) (interface_need (facts_of inputs) row) None) (sym first_is ∙ is)
          ∙ ap (λ b. opened_by ((b && is_none st.number) && needs_request (facts_of inputs) row)) (sym is)

  -- none is opened where none is lacking
  pub nothing_opens : lacks_request (facts_of inputs) row st ≡ false → opened_at inputs place ≡ None
  nothing_opens off = opens_where ∙ ap opened_by off

  module _ (lacks : lacks_request (facts_of inputs) row st ≡ true) where
    pub opens : opened_at inputs place ≡ Some (interface_request (facts_of inputs) row)
    opens = opens_where ∙ ap opened_by lacks

    all_three : (a b c d : Bool) → ((a && b) && (c && not d)) ≡ true → (a ≡ true) × (b ≡ true) × (d ≡ false)
    all_three true true true true h = cc h
    all_three true true true false h = (refl, refl, refl)
    all_three true true false d h = cc h
    all_three true false c d h = cc h
    all_three false b c d h = cc h

    abbrev tests : (st.is_first ≡ true) × (is_none st.number ≡ true) × (asks_nothing row.proto ≡ false)
    tests = all_three st.is_first (is_none st.number) (is_ready (facts_of inputs) row) (asks_nothing row.proto) lacks

    unnumbered : (o : Option ℕ) → is_none o ≡ true → o ≡ None
    unnumbered None h = refl
    unnumbered (Some k) h = cc h

    pub is_the_first : st.is_first ≡ true
    is_the_first = tests.0

    row_first : is_first rows place row.name ≡ true
    row_first = sym first_is ∙ is_the_first

    pub at_hand : IsAtHand row (slice_get states.spare.items place)
    at_hand = tied.noted.at_hand place row st at here_is tests.0 tests.2 (unnumbered st.number tests.1)

    is_noted : IsNoted inputs row st
    is_noted = subst (λ b. IsNotedAs b inputs row st) is_the_first noted

    -- none is open
    pub not_open : open_interface inputs.interfaces row.name ≡ None
    not_open = none_open inputs row.name (sym is_noted.number ∙ unnumbered st.number tests.1)

    pub named_row : interface_named inputs.conf row.name ≡ Some row
    named_row = first_found rows place row at row_first

    module _ (spare request : InterfaceRequest) (spare_is : slice_get states.spare.items place ≡ Some (Some spare)) (request_is : request ≡ record spare { device = st.device }) where
      -- the request at hand with the device of the state is that of the row
      pub request_of_row : request ≡ interface_request (facts_of inputs) row
      request_of_row =
          let h = at_hand in
          let same : h.0 ≡ spare = some_is h.0 spare (some_is (Some h.0) (Some spare) (sym h.1 ∙ spare_is)) in
          let is : IsRequestOf row spare = subst (IsRequestOf row) same h.2 in
          request_is
          ∙ ap (λ (name : List ℕ). let a : InterfaceRequest = record spare { name = name; device = st.device } in a) is.name
          ∙ ap (λ (proto : List ℕ). let a : InterfaceRequest = record spare { name = row.name; proto = proto; device = st.device } in a) is.proto
          ∙ ap (λ options. let a : InterfaceRequest = record { name = row.name; proto = row.proto; options = options; device = st.device } in a) is.options
          ∙ ap (λ (device : Option (List ℕ)). let a : InterfaceRequest = record { name = row.name; proto = row.proto; options = (interface_request (facts_of inputs) row).options; device = device } in a) is_noted.device

      pub request_named : request.name ≡ row.name
      request_named = ap (λ (a : InterfaceRequest). a.name) request_of_row

      pub after_is : opened_after inputs place ≡ with_request inputs request
      after_is = ap (λ (o : Option InterfaceRequest). with_opened inputs o) (opens ∙ ap (λ (a : InterfaceRequest). Some a) (sym request_of_row))

      -- what is told
      place_is : unwrap_or (position (λ (r : InterfaceRow). bytes_eq r.name request.name) rows) 0 ≡ place
      place_is = ap (λ (o : Option ℕ). unwrap_or o 0) (position_named rows request.name ∙ ap (place_of (names_of_rows rows)) request_named ∙ place_of_first rows place row at row_first)

      pub told_is : opened_notices inputs place ≡ notice_of inputs.next (Some (place, st.device)) ∷ []
      told_is =
          ap (λ (o : Option InterfaceRequest). map (interface_notice inputs.conf) (opened_interfaces inputs.next (option_to_list o))) (opens ∙ ap (λ (a : InterfaceRequest). Some a) (sym request_of_row))
          ∙ ap (λ k. notice.Interface inputs.next k request.device ∷ []) place_is
          ∙ ap (λ (device : Option (List ℕ)). notice.Interface inputs.next place device ∷ []) (ap (λ (a : InterfaceRequest). a.device) request_is)

      -- ---- the requests with it

      abbrev opened : OpenInterface
      opened = record { number = inputs.next; request = request; answer = None }

      abbrev pub requests : List OpenInterface
      requests = inputs.interfaces ++ opened ∷ []

      others_there : OthersSame inputs requests (inputs.next + 1) row.name
      others_there q other =
          found_behind (λ (o : OpenInterface). o.request.name) inputs.interfaces (opened ∷ []) q
          ∙ ap (λ b. first_some (open_interface inputs.interfaces q) (cond {A = Option OpenInterface} b (Some opened) None)) (ap (λ n. bytes_eq n q) request_named ∙ either_way row.name q ∙ other)
          ∙ nothing_behind (open_interface inputs.interfaces q)

      found_there : open_interface requests row.name ≡ Some opened
      found_there =
          found_behind (λ (o : OpenInterface). o.request.name) inputs.interfaces (opened ∷ []) row.name
          ∙ ap (λ (o : Option OpenInterface). first_some o (cond {A = Option OpenInterface} (bytes_eq request.name row.name) (Some opened) None)) not_open
          ∙ ap (λ b. cond {A = Option OpenInterface} b (Some opened) None) (same_bytes request.name row.name request_named)

      own_there : AreOwnRequests (with_request inputs request)
      own_there o r inside found = elim (in_either inputs.interfaces (opened ∷ []) o inside) as (λ _. o.request ≡ interface_request (facts_of inputs) r) [
        | inl before ↦ tied.own o r before found
        | inr last ↦ new (only_one last)
      ]
        where
          only_one : Contains (opened ∷ []) o → opened ≡ o
          only_one h = elim (first_or_later opened [] o h) as (λ _. opened ≡ o) [
            | inl same ↦ same
            | inr later ↦ absurd (none_in_nil o later)
          ]

          new : opened ≡ o → o.request ≡ interface_request (facts_of inputs) r
          new same =
              let name : o.request.name ≡ row.name = ap (λ (x : OpenInterface). x.request.name) (sym same) ∙ request_named in
              let one : row ≡ r = some_is row r (sym named_row ∙ ap (interface_named inputs.conf) (sym name) ∙ found) in
              ap (λ (x : OpenInterface). x.request) (sym same) ∙ request_of_row ∙ ap (interface_request (facts_of inputs)) one

      pub opened_moves : (now : States) → now.reach ≡ states.reach → Moves inputs requests (inputs.next + 1) place row (Some inputs.next) now
      opened_moves now reach = record {
        others = others_there;
        silent = ap (option_and_then (λ (o : OpenInterface). o.answer)) found_there;
        number = sym (ap (option_map (λ (o : OpenInterface). o.number)) found_there);
        hand = λ none. cc none;
        own = own_there;
        reach = subst (IsReachOf (with_request inputs request)) (sym reach) (alike_reach inputs (with_request inputs request) states.reach (opened_alike inputs request) tied.reach);
      }
