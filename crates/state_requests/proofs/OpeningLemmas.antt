-- How the opening of a request leaves what is kept.
use Rattle.std.proofs.Common.{arith, ℕ, ◌≡◌, ◌<◌, ◌+◌, List, [], ◌∷◌, ◌++◌, length, get_or, Bool, true, false, Option, Some, None, ap, sym, subst, ◌∙◌, append-nil}
use Rattle.std.specs.Prelude.{is_some, slice_get, slice_set, vec_capacity}
use Rattle.net_rows.specs.declared.rows.InterfaceRow.{InterfaceRow}
use Rattle.net_rules.specs.declared.request.InterfaceRequest.{InterfaceRequest}
use Rattle.net_rules.specs.declared.event.Notice.{Notice}
use Rattle.net_rules.specs.declared.inputs.Inputs.{Inputs}
use Rattle.net_rules.specs.Rows.{interface_named}
use Rattle.net_rules.specs.Inputs.{facts_of, open_interface}
use Rattle.known_inputs.specs.Known.{Known, IsNamed}
use Rattle.known_inputs.specs.Steps.{with_request}
use Rattle.net_states.specs.SettlingState.{SettlingState}
use Rattle.net_rules.specs.declared.state.InterfaceState.{InterfaceState}
use Rattle.net_rules.proofs.MoveLemmas.{some_is}
use Rattle.asked_places.specs.Touched.{has}
use Rattle.asked_places.specs.Opening.{opened_at, opened_after, opened_notices}
use Rattle.net_states.specs.declared.states.States.{States}
use Rattle.net_states.specs.Kept.{IsTied}
use Rattle.state_requests.specs.Asking.{lacks_request, AreBetween}
use Rattle.state_requests.specs.Telling.{notice_of}
use Rattle.state_requests.proofs.ListLemmas.{set_other, set_size, item_at, read_at}
use Rattle.state_requests.proofs.KeptLemmas.{IsKeptOtherwise, between_still}
use Rattle.state_requests.proofs.OpenedLemmas.{nothing_opens, is_the_first, at_hand, not_open, named_row, request_named, after_is, told_is, requests, opened_moves}
use Rattle.state_requests.proofs.StepLemmas.{none_told, none_opened}

module _ (k : Known) (states : States) (tied : IsTied k.inputs states) (place : ℕ) (within : place < length k.inputs.conf.interfaces) (lacks : Bool)
    (test : (row : InterfaceRow) (st : InterfaceState) → slice_get k.inputs.conf.interfaces place ≡ Some row → slice_get states.list.items place ≡ Some st → lacks ≡ lacks_request (facts_of k.inputs) row st) where
  row_at : (row : InterfaceRow) × (slice_get k.inputs.conf.interfaces place ≡ Some row)
  row_at = item_at k.inputs.conf.interfaces place within

  list_within : place < length states.list.items
  list_within = let size = tied.noted.size in omega (arith, within, size)

  -- a state that is read twice, where the lists of requests alone differ
  pub read_twice : (mid : States) (st again : InterfaceState) → mid ≡ record states { spare = mid.spare } → st ≡ get_or states.list.items place st → again ≡ get_or mid.list.items place again → again ≡ st
  read_twice mid st again others read later = some_is again st
      (sym (read_at states.list.items place again list_within (later ∙ ap (λ (s : States). get_or s.list.items place again) others)) ∙ read_at states.list.items place st list_within read)

  -- where none is lacking nothing is opened and told
  none_at : lacks ≡ false → opened_at k.inputs place ≡ None
  none_at off =
      let st = item_at states.list.items place list_within in
      nothing_opens k.inputs states tied place row_at.0 st.0 row_at.1 st.1 (sym (test row_at.0 st.0 row_at.1 st.1) ∙ off)

  pub none_after : lacks ≡ false → k ≡ record k { inputs = opened_after k.inputs place }
  none_after off = ap (λ (i : Inputs). let now : Known = record k { inputs = i } in now) (sym (none_opened k.inputs place (none_at off)))

  pub none_more : lacks ≡ false → (items : List Notice) → items ≡ items ++ opened_notices k.inputs place
  none_more off items = sym (append-nil items) ∙ ap (λ (ns : List Notice). items ++ ns) (sym (none_told k.inputs place (none_at off)))

  module _ (on : lacks ≡ true) where
    -- a request is at hand
    pub is_at_hand : (taken : Option InterfaceRequest) → slice_get states.spare.items place ≡ Some taken → taken ≡ None → ⊥
    is_at_hand taken there none =
        let st = item_at states.list.items place list_within in
        let hand = at_hand k.inputs states tied place row_at.0 st.0 row_at.1 st.1 (sym (test row_at.0 st.0 row_at.1 st.1) ∙ on) in
        let same : Some hand.0 ≡ taken = some_is (Some hand.0) taken (sym hand.1 ∙ there) in
        cc (same, none)

    module _ (st : InterfaceState) (read : st ≡ get_or states.list.items place st) (spare request : InterfaceRequest) (taken : Option InterfaceRequest) (there : slice_get states.spare.items place ≡ Some taken) (some : taken ≡ Some spare)
        (request_is : request ≡ record spare { device = st.device }) where
      here_is : slice_get states.list.items place ≡ Some st
      here_is = read_at states.list.items place st list_within read

      lacks_so : lacks_request (facts_of k.inputs) row_at.0 st ≡ true
      lacks_so = sym (test row_at.0 st row_at.1 here_is) ∙ on

      spare_is : slice_get states.spare.items place ≡ Some (Some spare)
      spare_is = there ∙ ap (λ (o : Option InterfaceRequest). Some o) some

      named : request.name ≡ row_at.0.name
      named = request_named k.inputs states tied place row_at.0 st row_at.1 here_is lacks_so spare request spare_is request_is

      pub opens_new : open_interface k.inputs.interfaces request.name ≡ None
      opens_new = ap (open_interface k.inputs.interfaces) named ∙ not_open k.inputs states tied place row_at.0 st row_at.1 here_is lacks_so

      pub opens_named : IsNamed k.inputs.conf request.name
      opens_named = ap (λ (o : Option InterfaceRow). is_some o) (ap (interface_named k.inputs.conf) named ∙ named_row k.inputs states tied place row_at.0 st row_at.1 here_is lacks_so)

      after_so : opened_after k.inputs place ≡ with_request k.inputs request
      after_so = after_is k.inputs states tied place row_at.0 st row_at.1 here_is lacks_so spare request spare_is request_is

      pub known_after : (now : Known) → now ≡ record k { inputs = with_request k.inputs request } → now ≡ record k { inputs = opened_after k.inputs place }
      known_after now same = same ∙ ap (λ (i : Inputs). let other : Known = record k { inputs = i } in other) (sym after_so)

      pub told_after : (items now : List Notice) (number : ℕ) → number ≡ k.inputs.next → now ≡ items ++ notice_of number (Some (place, st.device)) ∷ [] → now ≡ items ++ opened_notices k.inputs place
      told_after items now number next is =
          is
          ∙ ap (λ n. items ++ notice_of n (Some (place, st.device)) ∷ []) next
          ∙ ap (λ (ns : List Notice). items ++ ns) (sym (told_is k.inputs states tied place row_at.0 st row_at.1 here_is lacks_so spare request spare_is request_is))

      module _ (mid now : States) (number : ℕ) (next : number ≡ k.inputs.next) (left : mid.spare.items ≡ slice_set states.spare.items place None) (first_others : mid ≡ record states { spare = mid.spare })
          (list : (s : InterfaceState) → slice_get mid.list.items place ≡ Some s → now.list.items ≡ slice_set mid.list.items place (record s { number = Some number })) (last : now.spare.items ≡ slice_set mid.spare.items place None)
          (others : now ≡ record mid { list = now.list; spare = now.spare }) where
        same_list : mid.list.items ≡ states.list.items
        same_list = ap (λ (s : States). s.list.items) first_others

        kept : IsKeptOtherwise place st (Some k.inputs.next) states now
        kept = record {
          list = list st (ap (λ (xs : List InterfaceState). slice_get xs place) same_list ∙ here_is) ∙ ap (λ (xs : List InterfaceState). slice_set xs place (record st { number = Some number })) same_list
              ∙ ap (λ (n : ℕ). slice_set states.list.items place (record st { number = Some n })) next;
          spare_size = ap (λ (xs : List (Option InterfaceRequest)). length xs) last ∙ set_size mid.spare.items place None ∙ ap (λ (xs : List (Option InterfaceRequest)). length xs) left ∙ set_size states.spare.items place None;
          spare_others = λ p other.
              ap (λ (xs : List (Option InterfaceRequest)). slice_get xs p) last
              ∙ set_other mid.spare.items place p None other
              ∙ ap (λ (xs : List (Option InterfaceRequest)). slice_get xs p) left
              ∙ set_other states.spare.items place p None other;
          room = ap (λ (s : States). vec_capacity s.lost) others ∙ ap (λ (s : States). vec_capacity s.lost) first_others;
        }

        pub between_after : (after : Known) → after ≡ record k { inputs = with_request k.inputs request } → (places : List ℕ) (c : SettlingState) → has places place ≡ true → AreBetween k.inputs places states c
            → AreBetween after.inputs places now c
        between_after after same places c touched between =
            let moves = opened_moves k.inputs states tied place row_at.0 st row_at.1 here_is lacks_so spare request spare_is request_is now (ap (λ (s : States). s.reach) others ∙ ap (λ (s : States). s.reach) first_others) in
            let all = requests k.inputs states tied place row_at.0 st row_at.1 here_is lacks_so spare request spare_is request_is in
            let first = is_the_first k.inputs states tied place row_at.0 st row_at.1 here_is lacks_so in
            let there_is : AreBetween (with_request k.inputs request) places now c =
            between_still k.inputs all (k.inputs.next + 1) place row_at.0 st (Some k.inputs.next) states now row_at.1 here_is first tied kept moves places c between touched in
            subst (λ (i : Inputs). AreBetween i places now c) (sym (ap (λ (x : Known). x.inputs) same)) there_is
