-- Claims and givers follow where one interface becomes another.
use Rattle.std.proofs.Common.{arith, ℕ, ◌≡◌, ◌≤◌, ◌<◌, ◌+◌, ◌-◌, ◌*◌, ◌^◌, List, [], length, map, Contains, Bool, true, false, Option, Some, refl, ap, sym, subst, ◌∙◌}
use Rattle.std.specs.Prelude.{fold, slice_get, slice_set, is_some, if◌then◌else◌}
use Rattle.std.proofs.lemmas.Nat.{mul-le}
use Rattle.std.proofs.lemmas.List.{length-set}
use Rattle.kern_model.specs.declared.object.Object.{Object}
use Rattle.net_rows.specs.declared.rows.InterfaceRow.{InterfaceRow}
use Rattle.net_rows.specs.declared.rows.NameRow.{NameRow}
use Rattle.net_rules.specs.declared.inputs.Inputs.{Inputs}
use Rattle.net_rules.specs.Facts.{Facts}
use Rattle.net_rules.specs.Inputs.{facts_of}
use Rattle.net_rules.specs.Want.{given_by, given_on}
use Rattle.graph_rules.specs.declared.ids.RadioPort.{RadioPort}
use Rattle.graph_rules.specs.State.{Known, State, claims_in, place_among}
use Rattle.graph_rules.specs.Answers.{port_of}
use Rattle.given_objects.specs.Gifts.{Gifts, givers_of}
use Rattle.given_objects.specs.Changes.{given_once_more, given_once_less}
use Rattle.net_rules.specs.declared.state.InterfaceState.{InterfaceState}
use Rattle.net_rules.specs.Claims.{uses_by, claim_of, claims_of}
use Rattle.net_rules.proofs.MoveLemmas.{count_moves, count_few, count_some}
use Rattle.net_gifts.specs.Giving.{times_in, gives, all_gives, HasGivers, HavePlaces, DiffersInGivers, without_givers}
use Rattle.net_gifts.proofs.TimesLemmas.{times_move, times_part, times_most}
use Rattle.net_gifts.proofs.FoldLemmas.{given_list, withdrawn_list}
use Rattle.net_gifts.proofs.BareLemmas.{more_bare, less_bare, places_stay}
use Rattle.claim_moves.proofs.NamedLemmas.{claims_same, claims_twice}
use Rattle.graph_settle.specs.SettlingState.{SettlingState}
use Rattle.claim_moves.specs.Claiming.{HasClaims, CanMove, Moves, DiffersInClaims}
use Rattle.net_states.specs.Counted.{AgreesWith, HasGiftRoom, IsCountedBy, DiffersInCounts}

-- ---- claims

module _ (states : List InterfaceState) (place : ℕ) (old new : InterfaceState) (is : slice_get states place ≡ Some old) where
  -- the claims of all names can follow
  pub can_move : (s : Known) → length states ≤ 1024 → HasClaims states s → new.device ≡ old.device → ((name : List ℕ) → uses_by name new ≡ true → is_some (place_among s.names name) ≡ true) → CanMove s old new
  can_move s size has device known = record {
    device = device;
    claimed = λ name uses. let all : claims_in s name ≡ claims_of states name = has name in let some : 0 < claims_of states name = count_some (uses_by name) states place old is uses in omega (arith, all, some);
    known = known;
    few = λ name.
        let all : claims_in s name ≡ claims_of states name = has name in
        let moved : claims_of (slice_set states place new) name + claim_of name old ≡ claims_of states name + claim_of name new = count_moves (uses_by name) states place old new is in
        let most : claims_of (slice_set states place new) name ≤ length (slice_set states place new) = count_few (uses_by name) (slice_set states place new) in
        let same : length (slice_set states place new) ≡ length states = length-set states place new in
        omega (arith, all, moved, most, same, size);
  }

  pub claims_moved : (before now : Known) → HasClaims states before → Moves old new before now → HasClaims (slice_set states place new) now
  claims_moved before now has moves = λ name.
      let all : claims_in before name ≡ claims_of states name = has name in
      let listed : claims_of (slice_set states place new) name + claim_of name old ≡ claims_of states name + claim_of name new = count_moves (uses_by name) states place old new is in
      let moved : claims_in now name + claim_of name old ≡ claims_in before name + claim_of name new = moves name in
      omega (arith, all, listed, moved)

-- what a graph says below its claims stays
pub agrees_still : (inputs : Inputs) (before now : State) → DiffersInClaims before now → AgreesWith inputs before.known → AgreesWith inputs now.known
agrees_still inputs before now stays agrees = record {
  below = record {
    rows = stays.rows ∙ agrees.below.rows;
    vlans = stays.vlans ∙ agrees.below.vlans;
    radio = ap (λ (ports : List RadioPort). map port_of ports) stays.radio ∙ agrees.below.radio;
    devices = λ name. stays.devices name ∙ agrees.below.devices name;
  };
  knows = λ name member.
      subst (λ (names : List (List ℕ)). Contains names name) (sym stays.names)
      (agrees.knows name (subst (λ (rows : List NameRow). Contains (map (λ (row : NameRow). row.name) rows) name) stays.rows member));
}

-- ---- gifts

module _ (inputs : Inputs) where
  abbrev facts : Facts
  facts = facts_of inputs

  abbrev pub given_as : InterfaceRow → InterfaceState → List Object
  given_as row st = gives (facts_of inputs) row st

  few_by : (row : InterfaceRow) (b : Bool) (l3_device : Option (List ℕ)) → length (given_by facts row l3_device) ≤ 2 ^ 50 → length (if b then given_by facts row l3_device else []) ≤ 2 ^ 50
  few_by row true l3_device few = few
  few_by row false l3_device few = omega arith

  pub gives_few : (gs : Gifts) → HasGiftRoom inputs gs → (row : InterfaceRow) (st : InterfaceState) → Contains inputs.conf.interfaces row → length (given_as row st) ≤ 2 ^ 50
  gives_few gs room row st member = few_by row st.is_up st.l3_device (room.few row st.l3_device member)

  thousand : (n most : ℕ) → n ≤ 1024 → n * most ≤ 1024 * most
  thousand n most few = mul-le n most 1024 most few (omega arith)

  -- nothing is given so often that one interface more would be too many
  pub givers_few : (states : List InterfaceState) (gs : Gifts) → HasGivers facts inputs.conf.interfaces states gs → HasGiftRoom inputs gs → (o : Object) → givers_of gs o ≤ 1024 * 2 ^ 50
  givers_few states gs has room o =
      let all : givers_of gs o ≡ times_in o (all_gives facts inputs.conf.interfaces states) = has o in
      let few : times_in o (all_gives facts inputs.conf.interfaces states) ≤ length inputs.conf.interfaces * 2 ^ 50 =
      times_most (λ (e : InterfaceRow × InterfaceState). gives facts e.0 e.1) inputs.conf.interfaces states (2 ^ 50) o (λ row st member. gives_few gs room row st member) in
      let most : length inputs.conf.interfaces * 2 ^ 50 ≤ 1024 * 2 ^ 50 = thousand (length inputs.conf.interfaces) (2 ^ 50) room.rows in
      omega (arith, all, few, most)

  module _ (states : List InterfaceState) (place : ℕ) (row : InterfaceRow) (old new : InterfaceState) (at : slice_get inputs.conf.interfaces place ≡ Some row) (is : slice_get states place ≡ Some old) where
    -- what an interface gives is given
    pub is_given : (gs : Gifts) → HasGivers facts inputs.conf.interfaces states gs → (o : Object) → times_in o (given_as row old) ≤ givers_of gs o
    is_given gs has o =
        let all : givers_of gs o ≡ times_in o (all_gives facts inputs.conf.interfaces states) = has o in
        let part : times_in o (given_as row old) ≤ times_in o (all_gives facts inputs.conf.interfaces states) = times_part (λ (e : InterfaceRow × InterfaceState). gives facts e.0 e.1) inputs.conf.interfaces states place row old o at is in
        omega (arith, all, part)

    -- what it gives now is given in place of what it gave
    pub givers_moved : (gs : Gifts) → HasGivers facts inputs.conf.interfaces states gs → HavePlaces gs (given_as row new)
        → HasGivers facts inputs.conf.interfaces (slice_set states place new) (fold given_once_more (fold given_once_less gs (given_as row old)) (given_as row new))
    givers_moved gs has places = λ o.
        let less : Gifts = fold given_once_less gs (given_as row old) in
        let there : HavePlaces less (given_as row new) = λ other member. places_stay gs less other (less_bare gs (given_as row old)) ∙ places other member in
        let all : givers_of gs o ≡ times_in o (all_gives facts inputs.conf.interfaces states) = has o in
        let part : times_in o (given_as row old) ≤ givers_of gs o = is_given gs has o in
        let listed : times_in o (all_gives facts inputs.conf.interfaces (slice_set states place new)) + times_in o (given_as row old) ≡ times_in o (all_gives facts inputs.conf.interfaces states) + times_in o (given_as row new) =
        times_move (λ (e : InterfaceRow × InterfaceState). gives facts e.0 e.1) inputs.conf.interfaces states place row old new o at is in
        let taken : givers_of less o ≡ givers_of gs o - times_in o (given_as row old) = withdrawn_list gs (given_as row old) o in
        let put : givers_of (fold given_once_more less (given_as row new)) o ≡ givers_of less o + times_in o (given_as row new) = given_list less (given_as row new) o there in
        omega (arith, all, part, listed, taken, put)

  -- there is room still
  pub room_still : (before now : Gifts) → DiffersInGivers before now → HasGiftRoom inputs before → HasGiftRoom inputs now
  room_still before now stays room = record {
    places = λ place row at first needs o member. places_stay before now o stays ∙ room.places place row at first needs o member;
    few = room.few;
    rows = room.rows;
  }

  -- an interface that gives little more can give it once what it gave is withdrawn
  pub may_give : (states : List InterfaceState) (gs : Gifts) → HasGivers facts inputs.conf.interfaces states gs → HasGiftRoom inputs gs → (row : InterfaceRow) (st : InterfaceState) (gone : List Object) → Contains inputs.conf.interfaces row
      → (o : Object) → givers_of (fold given_once_less gs gone) o + length (given_as row st) ≤ 2 ^ 62
  may_give states gs has room row st gone member o =
      let most : givers_of gs o ≤ 1024 * 2 ^ 50 = givers_few states gs has room o in
      let less : givers_of (fold given_once_less gs gone) o ≡ givers_of gs o - times_in o gone = withdrawn_list gs gone o in
      let few : length (given_as row st) ≤ 2 ^ 50 = gives_few gs room row st member in
      omega (arith, most, less, few)

-- what is given where one is up on a device
pub gives_up : (inputs : Inputs) (row : InterfaceRow) (st : InterfaceState) (l3_device : List ℕ) → st.is_up ≡ true → st.l3_device ≡ Some l3_device → gives (facts_of inputs) row st ≡ given_on (facts_of inputs) row l3_device
gives_up inputs row st l3_device up is = ap (λ b. if b then given_by (facts_of inputs) row st.l3_device else []) up ∙ ap (given_by (facts_of inputs) row) is

-- places are there once something was withdrawn
pub places_after : (before now : Gifts) (gone os : List Object) → now ≡ fold given_once_less before gone → HavePlaces before os → HavePlaces now os
places_after before now gone os is has =
    subst (λ (gs : Gifts). HavePlaces gs os) (sym is)
    (λ o member. places_stay before (fold given_once_less before gone) o (less_bare before gone) ∙ has o member)

-- ---- both

pub same_counts : (c : SettlingState) → DiffersInCounts c c
same_counts c = record { graph = claims_same c.graph; gifts = refl; may_lose_link = refl }

pub counts_twice : (a b c : SettlingState) → DiffersInCounts a b → DiffersInCounts b c → DiffersInCounts a c
counts_twice a b c first second = record {
  graph = claims_twice a.graph b.graph c.graph first.graph second.graph;
  gifts = second.gifts ∙ first.gifts;
  may_lose_link = second.may_lose_link ∙ first.may_lose_link;
}

-- What an interface gave is withdrawn, its claims move, and what it gives now is given.
module _ (inputs : Inputs) (states : List InterfaceState) (place : ℕ) (row : InterfaceRow) (old new : InterfaceState) (at : slice_get inputs.conf.interfaces place ≡ Some row) (is : slice_get states place ≡ Some old)
    (before less now : SettlingState) (graph : State)
    (less_gifts : less.gifts ≡ fold given_once_less before.gifts (gives (facts_of inputs) row old)) (less_kept : less ≡ record before { gifts = less.gifts })
    (moves : Moves old new less.graph.known graph.known) (claims : DiffersInClaims less.graph graph)
    (gifts : now.gifts ≡ fold given_once_more less.gifts (gives (facts_of inputs) row new)) (kept : now ≡ record less { graph = graph; gifts = now.gifts }) where
  less_graph : less.graph ≡ before.graph
  less_graph = ap (λ (c : SettlingState). c.graph) less_kept

  now_graph : now.graph ≡ graph
  now_graph = ap (λ (c : SettlingState). c.graph) kept

  pub counts_alone : DiffersInCounts before now
  counts_alone = record {
    graph = subst (λ (s : State). DiffersInClaims before.graph s) (sym now_graph) (subst (λ (s : State). DiffersInClaims s graph) less_graph claims);
    gifts =
        ap (λ (gs : Gifts). map without_givers gs) gifts
        ∙ more_bare less.gifts (gives (facts_of inputs) row new)
        ∙ ap (λ (gs : Gifts). map without_givers gs) less_gifts
        ∙ less_bare before.gifts (gives (facts_of inputs) row old);
    may_lose_link = ap (λ (c : SettlingState). c.may_lose_link) kept ∙ ap (λ (c : SettlingState). c.may_lose_link) less_kept;
  }

  moves_now : Moves old new before.graph.known now.graph.known
  moves_now = subst (λ (s : State). Moves old new before.graph.known s.known) (sym now_graph) (subst (λ (s : State). Moves old new s.known graph.known) less_graph moves)

  all_gifts : now.gifts ≡ fold given_once_more (fold given_once_less before.gifts (gives (facts_of inputs) row old)) (gives (facts_of inputs) row new)
  all_gifts = gifts ∙ ap (λ (gs : Gifts). fold given_once_more gs (gives (facts_of inputs) row new)) less_gifts

  pub counted_still : IsCountedBy inputs states before → HavePlaces before.gifts (gives (facts_of inputs) row new) → IsCountedBy inputs (slice_set states place new) now
  counted_still counted places = record {
    agrees = agrees_still inputs before.graph now.graph counts_alone.graph counted.agrees;
    counted = record {
      claims = claims_moved states place old new is before.graph.known now.graph.known counted.counted.claims moves_now;
      givers = subst (λ (gs : Gifts). HasGivers (facts_of inputs) inputs.conf.interfaces (slice_set states place new) gs) (sym all_gifts)
          (givers_moved inputs states place row old new at is before.gifts counted.counted.givers places);
    };
    room = room_still inputs before.gifts now.gifts counts_alone.gifts counted.room;
  }
