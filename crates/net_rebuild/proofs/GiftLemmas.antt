-- What a row gives, as it is listed, and room for it.
use Rattle.std.proofs.Common.{arith, ◌≡◌, ◌≤◌, ◌<◌, ◌+◌, ◌++◌, ◌^◌, inl, inr, ℕ, List, [], ◌∷◌, map, filter, length, take, get_or, slice_get, Contains, Bool, true, false, cond, Option, Some, None, Result, Ok, Err, OnOk, refl, ap, sym}
use Rattle.std.proofs.Common.{subst, ◌∙◌}
use Rattle.std.specs.List.{filter_map}
use Rattle.std.specs.Prelude.{if◌then◌else◌, nat_le, ◌&&◌}
use Rattle.std.proofs.lemmas.Bool.Decides.{nat_tests}
use Rattle.std.proofs.lemmas.List.{length-append, length-map}
use Rattle.std.proofs.lemmas.List.Elements.{Contains-append_cases}
use Rattle.kern_model.specs.declared.object.Object.{Object}
use Rattle.kern_model.proofs.MemberLemmas.{first_or_later, none_in_nil}
use Rattle.net_rows.specs.declared.rows.InterfaceRow.{InterfaceRow}
use Rattle.net_rows.specs.declared.rows.RouteRow.{RouteRow}
use Rattle.net_rules.specs.declared.answer.Answer.{Answer}
use Rattle.net_rules.specs.declared.inputs.Inputs.{Inputs}
use Rattle.net_rules.specs.Facts.{Facts}
use Rattle.net_rules.specs.Rows.{is_static}
use Rattle.net_rules.specs.Interfaces.{answer_of, l3_device_of}
use Rattle.net_rules.specs.Want.{given_by, given_on, of_options, of_answer, of_sections, is_route_of}
use Rattle.net_rules.specs.Inputs.{facts_of}
use Rattle.net_view.proofs.PortLemmas.{more_is}
use Rattle.net_wants.specs.Given.{route_on}
use Rattle.net_wants.specs.Grouped.{is_route_named}
use Rattle.net_wants.proofs.GroupLemmas.{items_are}
use Rattle.net_rules.proofs.MoveLemmas.{count_few}
use Rattle.given_objects.specs.Gifts.{Gifts, has_place, givers_of, held_of}
use Rattle.net_gifts.specs.Giving.{HavePlaces}
use Rattle.gift_places.specs.Expecting.{listed_given, with_places, all_held_alone, HasMorePlaces}
use Rattle.gift_places.proofs.LawLemmas.{still_place, all_places, same_held, same_givers, alone_held, alone_givers}
use Rattle.gift_places.proofs.MoreLemmas.{none_more, both_more}
use Rattle.net_follow.specs.Counted.{needs_no_answer, HasGiftRoom}
use Rattle.net_follow.proofs.StatePlaceLemmas.{member_at}
use Rattle.net_rebuild.specs.Rebuild.{AreFewRows}
use Rattle.net_rebuild.specs.Room.{GivesFew, HasRowRoom}

-- ---- what is listed is what is given

pub listed_is_given : (inputs : Inputs) (row : InterfaceRow) (answer : Option Answer) (routes : List RouteRow) (places dev : List ℕ) → answer ≡ answer_of (facts_of inputs) row → routes ≡ inputs.conf.routes
    → map (slice_get inputs.conf.routes) places ≡ map Some (filter (is_route_named inputs.conf row.name) inputs.conf.routes) → listed_given row answer routes places dev ≡ given_on (facts_of inputs) row dev
listed_is_given inputs row answer routes places dev told all at =
    let own : Option Answer → List Object = λ a. if is_static row.proto then of_options row dev else of_answer dev a in
    let named : List RouteRow = filter (is_route_named inputs.conf row.name) inputs.conf.routes in
    let same : filter_map (slice_get routes) places ≡ named =
    ap (λ (rs : List RouteRow). filter_map (slice_get rs) places) all ∙ items_are inputs.conf.routes places named at in
    ap (λ (a : Option Answer). own a ++ map (route_on dev) (filter_map (slice_get routes) places)) told
    ∙ ap (λ (rs : List RouteRow). own (answer_of (facts_of inputs) row) ++ map (route_on dev) rs) same

pub given_has_places : (before now : Gifts) (os others : List Object) → now ≡ with_places before os → os ≡ others → HavePlaces now others
given_has_places before now os others made same =
    subst (λ (gs : Gifts). HavePlaces gs others) (sym (made ∙ ap (with_places before) same)) (λ o member. all_places before others o member)

-- ---- what is given is few

few_sections : (facts : Facts) (row : InterfaceRow) (dev : List ℕ) → length (of_sections facts row dev) ≤ length facts.conf.routes
few_sections facts row dev =
    let same : length (of_sections facts row dev) ≡ length (filter (is_route_of facts row) facts.conf.routes) = length-map (filter (is_route_of facts row) facts.conf.routes) (route_on dev) in
    let few : length (filter (is_route_of facts row) facts.conf.routes) ≤ length facts.conf.routes = count_few (is_route_of facts row) facts.conf.routes in
    omega (arith, same, few)

few_own : (row : InterfaceRow) (answer : Option Answer) (dev : List ℕ) (b : Bool) → GivesFew row answer → length (if b then of_options row dev else of_answer dev answer) ≤ 2 ^ 49
few_own row answer dev true few = few.options dev
few_own row answer dev false few = few.answered dev

pub gives_little : (inputs : Inputs) (row : InterfaceRow) → AreFewRows inputs.conf → GivesFew row (answer_of (facts_of inputs) row) → (l3_device : Option (List ℕ)) → length (given_by (facts_of inputs) row l3_device) ≤ 2 ^ 50
gives_little inputs row rows few None = omega arith
gives_little inputs row rows few (Some dev) =
    let facts : Facts = facts_of inputs in
    let own : List Object = if is_static row.proto then of_options row dev else of_answer dev (answer_of facts row) in
    let both : length (given_on facts row dev) ≡ length own + length (of_sections facts row dev) = length-append own (of_sections facts row dev) in
    let first : length own ≤ 2 ^ 49 = few_own row (answer_of facts row) dev (is_static row.proto) few in
    let second : length (of_sections facts row dev) ≤ length inputs.conf.routes = few_sections facts row dev in
    let routes : length inputs.conf.routes ≤ 2 ^ 49 = rows.routes in
    omega (arith, both, first, second, routes)

-- ---- room for one row after another

pub room_stays : (inputs : Inputs) (row : InterfaceRow) (before now : Gifts) → HasMorePlaces before now → HasRowRoom inputs row before → HasRowRoom inputs row now
room_stays inputs row before now more room = record {
  places = λ needs o member. subst (λ (gs : Gifts). has_place gs o ≡ true) (sym more.places) (still_place before more.objects o (room.places needs o member));
  few = room.few;
}

-- there is room for the rows so far, and there are more places than at the start
pub record HaveRoom (inputs : Inputs) (rows : List InterfaceRow) (start now : Gifts) : Type 0 where
  pub each : (row : InterfaceRow) → Contains rows row → HasRowRoom inputs row now
  pub more : HasMorePlaces start now

pub no_row_room : (inputs : Inputs) (rows : List InterfaceRow) (gs : Gifts) → rows ≡ [] → HaveRoom inputs rows gs gs
no_row_room inputs rows gs none = record {
  each = λ row member. absurd (none_in_nil row (subst (λ (xs : List InterfaceRow). Contains xs row) none member));
  more = none_more gs gs refl;
}

pub row_room_more : (inputs : Inputs) (rows : List InterfaceRow) (start before now : Gifts) (i : ℕ) (row : InterfaceRow) → i < length rows → row ≡ get_or rows i row → HaveRoom inputs (take i rows) start before → HasRowRoom inputs row now
    → HasMorePlaces before now → HaveRoom inputs (take (i + 1) rows) start now
row_room_more inputs rows start before now i row within read so_far room more = record {
  each = λ other member. elim (Contains-append_cases (take i rows) (row ∷ []) other (subst (λ (xs : List InterfaceRow). Contains xs other) (more_is rows i row within read) member)) as (λ _. HasRowRoom inputs other now) [
    | inl old ↦ room_stays inputs other before now more (so_far.each other old)
    | inr new ↦ elim (first_or_later row [] other new) as (λ _. HasRowRoom inputs other now) [
      | inl same ↦ subst (λ (r : InterfaceRow). HasRowRoom inputs r now) same room
      | inr none ↦ absurd (none_in_nil other none)
    ]
  ];
  more = both_more start before now so_far.more more;
}

pub room_for_all : (inputs : Inputs) (rows : List InterfaceRow) (start now : Gifts) → rows ≡ inputs.conf.interfaces → AreFewRows inputs.conf → HaveRoom inputs rows start now → HasGiftRoom inputs now
room_for_all inputs rows start now all few room = record {
  places = λ place row at first needs. (room.each row (member_at rows place row (ap (λ (xs : List InterfaceRow). slice_get xs place) all ∙ at))).places needs;
  few = λ row l3_device member. (room.each row (subst (λ (xs : List InterfaceRow). Contains xs row) (sym all) member)).few l3_device;
  rows = few.interfaces;
}

pub row_room : (inputs : Inputs) (row : InterfaceRow) (answer : Option Answer) (gs : Gifts) → answer ≡ answer_of (facts_of inputs) row → AreFewRows inputs.conf → GivesFew row answer
    → (needs_no_answer (facts_of inputs) row ≡ true → HavePlaces gs (given_by (facts_of inputs) row (l3_device_of (facts_of inputs) row))) → HasRowRoom inputs row gs
row_room inputs row answer gs told rows few places = record {
  places = places;
  few = gives_little inputs row rows (subst (λ (a : Option Answer). GivesFew row a) told few);
}

-- ---- what holds where there is no error

pub on_ok : {X E P Q : Type 0} (r : Result X E) → (P → Q) → OnOk r P → OnOk r Q
on_ok (Ok x) f p = f p
on_ok (Err e) f p = tt

-- ---- what is held alone, with places

pub held_expected : (gs alone made : Gifts) → alone ≡ all_held_alone gs → HasMorePlaces alone made → held_of made ≡ held_of gs
held_expected gs alone made is more = ap held_of more.places ∙ same_held alone more.objects ∙ ap held_of is ∙ alone_held gs

pub none_expected : (gs alone made : Gifts) → alone ≡ all_held_alone gs → HasMorePlaces alone made → (o : Object) → givers_of made o ≡ 0
none_expected gs alone made is more o =
    ap (λ (xs : Gifts). givers_of xs o) more.places
    ∙ same_givers alone more.objects o
    ∙ ap (λ (xs : Gifts). givers_of xs o) is
    ∙ alone_givers gs o

-- ---- few, as it was computed

pub few_by : (row : InterfaceRow) (answer : Option Answer) (a b : Bool) → ((dev : List ℕ) → a ≡ nat_le (length (of_options row dev)) (2 ^ 49)) → ((dev : List ℕ) → b ≡ nat_le (length (of_answer dev answer)) (2 ^ 49)) → (a && b) ≡ true
    → GivesFew row answer
few_by row answer true true first second both = record {
  options = λ dev. let is : nat_le (length (of_options row dev)) (2 ^ 49) ≡ true = sym (first dev) in grind (arith, nat_tests, is);
  answered = λ dev. let is : nat_le (length (of_answer dev answer)) (2 ^ 49) ≡ true = sym (second dev) in grind (arith, nat_tests, is);
}
few_by row answer true false first second both = cc both
few_by row answer false b first second both = cc both
