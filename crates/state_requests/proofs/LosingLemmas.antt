-- How the loss of a request leaves what is kept.
use Rattle.std.proofs.Common.{arith, ℕ, ◌≡◌, ◌<◌, List, [], ◌∷◌, length, get_or, Bool, true, false, Option, Some, None, ap, sym, subst, ◌∙◌}
use Rattle.std.specs.Prelude.{slice_get, slice_set, vec_capacity}
use Rattle.std.specs.Option.{option_and_then}
use Rattle.net_rows.specs.declared.rows.InterfaceRow.{InterfaceRow}
use Rattle.net_rules.specs.declared.answer.Answer.{Answer}
use Rattle.net_rules.specs.declared.request.InterfaceRequest.{InterfaceRequest}
use Rattle.net_rules.specs.declared.inputs.Inputs.{Inputs}
use Rattle.net_rules.specs.declared.inputs.OpenInterface.{OpenInterface}
use Rattle.net_rules.specs.Inputs.{facts_of}
use Rattle.known_inputs.specs.Known.{Known, StandOnce}
use Rattle.known_inputs.specs.Steps.{request_of, without_request}
use Rattle.net_reach.specs.declared.reach.Reach.{Reach}
use Rattle.net_reach.specs.Reach.{IsReachOf, interface_place}
use Rattle.net_reach.specs.L3Devices.{TellsL3Device}
use Rattle.net_states.specs.SettlingState.{SettlingState}
use Rattle.net_rules.specs.declared.state.InterfaceState.{InterfaceState}
use Rattle.asked_places.specs.Touched.{has}
use Rattle.asked_places.specs.Losing.{lost_at, left_at}
use Rattle.asked_places.proofs.PlaceLemmas.{place_of_first}
use Rattle.asked_places.proofs.LostLemmas.{all_left}
use Rattle.net_states.specs.declared.states.States.{States}
use Rattle.net_states.specs.Kept.{IsAtHand, IsTied}
use Rattle.state_requests.specs.Asking.{needs_request, AreBetween}
use Rattle.state_requests.proofs.ListLemmas.{set_here, set_other, set_size, item_at, read_at}
use Rattle.state_requests.proofs.KeptLemmas.{IsKeptOtherwise, between_still}
use Rattle.state_requests.proofs.LostLemmas.{needed_stays, unasked_stays, is_the_first, row_first, found_so, left_is, lost_is, closed_requests, tells_none, left, lost_moves}

module _ (k : Known) (states : States) (tied : IsTied k.inputs states) (place : ℕ) (within : place < length k.inputs.conf.interfaces) (once : StandOnce k.inputs) (needs : Bool)
    (test : (row : InterfaceRow) → slice_get k.inputs.conf.interfaces place ≡ Some row → needs ≡ needs_request (facts_of k.inputs) row) where
  row_at : (row : InterfaceRow) × (slice_get k.inputs.conf.interfaces place ≡ Some row)
  row_at = item_at k.inputs.conf.interfaces place within

  list_within : place < length states.list.items
  list_within = let size = tied.noted.size in omega (arith, within, size)

  spare_within : place < length states.spare.items
  spare_within = let size = tied.noted.spare_size in omega (arith, within, size)

  -- where none is lost all stays
  pub none_left : lost_at k.inputs place ≡ None → k ≡ record k { inputs = left_at k.inputs (place ∷ []) }
  none_left none = ap (λ (i : Inputs). let now : Known = record k { inputs = i } in now) (sym (all_left k.inputs once place none))

  pub needed_none : needs ≡ true → lost_at k.inputs place ≡ None
  needed_none on =
      let st = item_at states.list.items place list_within in
      needed_stays k.inputs states tied place row_at.0 st.0 row_at.1 st.1 (sym (test row_at.0 row_at.1) ∙ on)

  module _ (st : InterfaceState) (read : st ≡ get_or states.list.items place st) where
    here_is : slice_get states.list.items place ≡ Some st
    here_is = read_at states.list.items place st list_within read

    pub unasked_none : st.number ≡ None → lost_at k.inputs place ≡ None
    unasked_none none = unasked_stays k.inputs states tied place row_at.0 st row_at.1 here_is none

    module _ (number : ℕ) (numbered : st.number ≡ Some number) where
      pub is_open : request_of k.inputs number ≡ None → ⊥
      is_open none = let found = found_so k.inputs states tied place row_at.0 st row_at.1 here_is number numbered once in cc (found, none)

      module _ (off : needs ≡ false) (closed : OpenInterface) (is : request_of k.inputs number ≡ Some closed) where
        needless : needs_request (facts_of k.inputs) row_at.0 ≡ false
        needless = sym (test row_at.0 row_at.1) ∙ off

        left_so : left_at k.inputs (place ∷ []) ≡ without_request k.inputs number
        left_so = left_is k.inputs states tied place row_at.0 st row_at.1 here_is number numbered once closed is needless

        pub known_left : (now : Known) → now ≡ record k { inputs = without_request k.inputs number } → now ≡ record k { inputs = left_at k.inputs (place ∷ []) }
        known_left now same = same ∙ ap (λ (i : Inputs). let other : Known = record k { inputs = i } in other) (sym left_so)

        pub number_lost : lost_at k.inputs place ≡ Some number
        number_lost = lost_is k.inputs states tied place row_at.0 st row_at.1 here_is number numbered once closed is needless

        -- what the answer told is told no longer
        pub reach_left : (reach : Reach) (was : Option (List ℕ)) → was ≡ option_and_then (λ (answer : Answer). answer.device) closed.answer
            → ((before now : Inputs) (interface : List ℕ) → IsReachOf before states.reach → interface_place before.conf interface ≡ Some place → TellsL3Device before now interface was None → IsReachOf now reach)
            → IsReachOf (left_at k.inputs (place ∷ [])) reach
        reach_left reach was told moves =
            let first = row_first k.inputs states tied place row_at.0 st row_at.1 here_is number numbered in
            let tells = tells_none k.inputs states tied place row_at.0 st row_at.1 here_is number numbered once closed is needless in
            moves k.inputs (left_at k.inputs (place ∷ [])) row_at.0.name tied.reach (place_of_first k.inputs.conf.interfaces place row_at.0 row_at.1 first)
            (subst (λ (o : Option (List ℕ)). TellsL3Device k.inputs (left_at k.inputs (place ∷ [])) row_at.0.name o None) (sym told) tells)

        module _ (now : States) (reach : Reach) (reached : IsReachOf (left_at k.inputs (place ∷ [])) reach)
            (list : (s : InterfaceState) → slice_get states.list.items place ≡ Some s → now.list.items ≡ slice_set states.list.items place (record s { number = None }))
            (spare : now.spare.items ≡ slice_set states.spare.items place (Some closed.request)) (others : now ≡ record states { reach = reach; list = now.list; spare = now.spare }) where
          kept : IsKeptOtherwise place st None states now
          kept = record {
            list = list st here_is;
            spare_size = ap (λ (xs : List (Option InterfaceRequest)). length xs) spare ∙ set_size states.spare.items place (Some closed.request);
            spare_others = λ p other. ap (λ (xs : List (Option InterfaceRequest)). slice_get xs p) spare ∙ set_other states.spare.items place p (Some closed.request) other;
            room = ap (λ (s : States). vec_capacity s.lost) others;
          }

          hand : IsAtHand row_at.0 (slice_get now.spare.items place)
          hand =
              let was = item_at states.spare.items place spare_within in (
                closed.request,
                ap (λ (xs : List (Option InterfaceRequest)). slice_get xs place) spare ∙ set_here states.spare.items place was.0 (Some closed.request) was.1,
                closed_requests k.inputs states tied place row_at.0 st row_at.1 here_is number numbered once closed is needless,
              )

          pub between_left : (after : Known) → after ≡ record k { inputs = without_request k.inputs number } → (places : List ℕ) (c : SettlingState) → has places place ≡ true → AreBetween k.inputs places states c
              → AreBetween after.inputs places now c
          between_left after same places c touched between =
              let moves = lost_moves k.inputs states tied place row_at.0 st row_at.1 here_is number numbered once closed is needless now hand
              (subst (IsReachOf (left_at k.inputs (place ∷ []))) (sym (ap (λ (s : States). s.reach) others)) reached) in
              let requests = left k.inputs states tied place row_at.0 st row_at.1 here_is number numbered once closed is needless in
              let first = is_the_first k.inputs states tied place row_at.0 st row_at.1 here_is number numbered in
              let there : AreBetween (left_at k.inputs (place ∷ [])) places now c = between_still k.inputs requests k.inputs.next place row_at.0 st None states now row_at.1 here_is first tied kept moves places c between touched in
              subst (λ (i : Inputs). AreBetween i places now c) (left_so ∙ sym (ap (λ (x : Known). x.inputs) same)) there
