-- What is kept of interfaces before any of them claims or gives something.
use Rattle.std.proofs.Common.{arith, ℕ, zero, suc, ◌+◌, ◌≡◌, ◌<◌, ◌≤◌, ◌⊎◌, inl, inr, List, [], ◌∷◌, ◌++◌, length, map, take, get_or, slice_get, Bool, true, false, cond, not, is_none, Option, Some, None, refl, ap, sym, subst, ◌∙◌}
use Rattle.std.proofs.Common.{vec_capacity}
use Rattle.std.specs.Prelude.{◌&&◌, ◌==◌}
use Rattle.std.proofs.lemmas.List.{length_push, length-take-le}
use Rattle.std.proofs.lemmas.Option.{slice_get_within, slice_get-get_or, slice_get_read, slice_get_cases, same_Some}
use Rattle.std.proofs.lemmas.Bool.Decides.{Decides-eqb}
use Rattle.net_rows.specs.declared.rows.InterfaceRow.{InterfaceRow}
use Rattle.net_rules.specs.declared.request.InterfaceRequest.{InterfaceRequest}
use Rattle.net_rules.specs.declared.inputs.Inputs.{Inputs}
use Rattle.net_rules.specs.Rows.{asks_nothing}
use Rattle.net_rules.specs.Need.{in_order}
use Rattle.net_rules.specs.RadioPorts.{device_of}
use Rattle.net_rules.specs.Inputs.{facts_of}
use Rattle.net_view.specs.Places.{is_place, place_of}
use Rattle.net_view.proofs.PortLemmas.{more_is}
use Rattle.net_reach.specs.Reach.{IsReachOf}
use Rattle.net_rules.specs.declared.state.InterfaceState.{InterfaceState}
use Rattle.net_rules.specs.States.{is_first, IsIdle}
use Rattle.asked_places.specs.Touched.{names_of_rows}
use Rattle.asked_places.proofs.PlaceLemmas.{place_of_first, first_at_place}
use Rattle.net_states.specs.declared.states.States.{States}
use Rattle.net_states.specs.Kept.{number_of, IsNotedAs, IsAtHand, AreOwnRequests, IsTied}
use Rattle.net_states.specs.Load.{IsNotedIdle, spare_request, IsSpare, AreBeside, AreIdle}

-- ---- one item more beside one more

pub beside_none : {X Y : Type 0} (is : ℕ → X → Y → Type 0) (ys : List Y) → ys ≡ [] → AreBeside is [] ys
beside_none {X} {Y} is ys none = record { size = ap length none; each = λ place x y at h. cc at }

at_place : {X : Type 0} → (xs : List X) (x : X) (place : ℕ) (y : X) → slice_get (xs ++ x ∷ []) place ≡ Some y → (slice_get xs place ≡ Some y) ⊎ ((place ≡ length xs) × (x ≡ y))
at_place [] x zero y h = inr (refl, cc h)
at_place [] x (suc k) y h = cc h
at_place (z ∷ zs) x zero y h = inl h
at_place {X} (z ∷ zs) x (suc k) y h = elim (at_place zs x k y h) as (λ _. (slice_get (z ∷ zs) (suc k) ≡ Some y) ⊎ ((suc k ≡ length (z ∷ zs)) × (x ≡ y))) [
  | inl old ↦ inl old
  | inr new ↦ inr (ap suc new.0, new.1)
]

beside_push : {X Y : Type 0} (is : ℕ → X → Y → Type 0) (xs : List X) (ys : List Y) (x : X) (y : Y) → AreBeside is xs ys → is (length xs) x y → AreBeside is (xs ++ x ∷ []) (ys ++ y ∷ [])
beside_push {X} {Y} is xs ys x y before new = record {
  size = let size = before.size in let more = length_push xs x in let longer = length_push ys y in omega arith;
  each = λ place a b at beside. elim (at_place xs x place a at) as (λ _. is place a b) [
    | inl old ↦ elim (at_place ys y place b beside) as (λ _. is place a b) [
      | inl also ↦ before.each place a b old also
      | inr last ↦ let within = slice_get_within xs place a old in let end = last.0 in let size = before.size in absurd (omega arith)
    ]
    | inr last ↦ elim (at_place ys y place b beside) as (λ _. is place a b) [
      | inl other ↦ let within = slice_get_within ys place b other in let end = last.0 in let size = before.size in absurd (omega arith)
      | inr also ↦
          subst (λ (k : ℕ). is k a b) (sym last.0)
          (subst (λ (z : X). is (length xs) z b) last.1 (subst (λ (z : Y). is (length xs) x z) also.1 new))
    ]
  ];
}

pub beside_more : {X Y : Type 0} (is : ℕ → X → Y → Type 0) (xs : List X) (ys : List Y) (i : ℕ) (x : X) (y : Y) → i < length xs → x ≡ get_or xs i x → AreBeside is (take i xs) ys → is i x y → AreBeside is (take (i + 1) xs) (ys ++ y ∷ [])
beside_more {X} {Y} is xs ys i x y within read before new =
    let size : length (take i xs) ≡ i = length-take-le i xs (omega arith) in
    subst (λ (z : List X). AreBeside is z (ys ++ y ∷ [])) (sym (more_is xs i x within read))
    (beside_push is (take i xs) ys x y before (subst (λ (k : ℕ). is k x y) (sym size) new))

pub pushed_beside : {X Y : Type 0} (is : ℕ → X → Y → Type 0) (xs : List X) (old new : List Y) (i : ℕ) (x : X) (y : Y) → i < length xs → x ≡ get_or xs i x → AreBeside is (take i xs) old → is i x y → new ≡ old ++ y ∷ []
    → AreBeside is (take (i + 1) xs) new
pushed_beside {X} {Y} is xs old new i x y within read before one pushed =
    subst (λ (z : List Y). AreBeside is (take (i + 1) xs) z) (sym pushed) (beside_more is xs old i x y within read before one)

-- the row at a place
pub row_at : (seen rows : List InterfaceRow) (place : ℕ) (row : InterfaceRow) → seen ≡ rows → place < length seen → row ≡ get_or seen place row → slice_get rows place ≡ Some row
row_at seen rows place row all within read =
    ap (λ (z : List InterfaceRow). slice_get z place) (sym all) ∙ slice_get_read seen (length seen) place row refl within read

-- ---- the first row of a name is at the place of the name

pub first_by_place : (rows : List InterfaceRow) (place : ℕ) (row : InterfaceRow) → slice_get rows place ≡ Some row → is_place place (place_of (map (λ (r : InterfaceRow). r.name) rows) row.name) ≡ is_first rows place row.name
first_by_place rows place row at = by (is_first rows place row.name) refl
  where
    other : (k : ℕ) → place_of (names_of_rows rows) row.name ≡ Some k → is_first rows place row.name ≡ false → (b : Bool) → (k == place) ≡ b → b ≡ false
    other k found off true same =
        let here : k ≡ place = (Decides-eqb k place).0 same in
        let first = (first_at_place rows row.name k found).first in
        cc (sym (subst (λ (n : ℕ). is_first rows n row.name ≡ true) here first) ∙ off)
    other k found off false same = refl

    off_place : is_first rows place row.name ≡ false → (o : Option ℕ) → place_of (names_of_rows rows) row.name ≡ o → is_place place o ≡ false
    off_place off None found = refl
    off_place off (Some k) found = other k found off (k == place) refl

    by : (b : Bool) → is_first rows place row.name ≡ b → is_place place (place_of (names_of_rows rows) row.name) ≡ is_first rows place row.name
    by true first = ap (is_place place) (place_of_first rows place row at first) ∙ (Decides-eqb place place).1 refl ∙ sym first
    by false off = off_place off (place_of (names_of_rows rows) row.name) refl ∙ sym off

-- ---- what is kept of a row

pub noted_idle : (inputs : Inputs) (place : ℕ) (row : InterfaceRow) (st : InterfaceState) → st.is_first ≡ is_first inputs.conf.interfaces place row.name → st.device ≡ device_of (facts_of inputs) row → st.number
    ≡ cond {A = Option ℕ} st.is_first (number_of inputs row.name) None → st.is_claimed ≡ false → st.is_up ≡ false → IsNotedIdle inputs place row st
noted_idle inputs place row st first device number claimed up = record {
  first = first;
  noted = by st.is_first number;
  idle = record { claimed = claimed; up = up };
}
  where
    by : (b : Bool) → st.number ≡ cond {A = Option ℕ} b (number_of inputs row.name) None → IsNotedAs b inputs row st
    by true number = record { device = device; number = number }
    by false number = record { idle = record { claimed = claimed; up = up }; number = number }

pub is_at_hand : (row : InterfaceRow) (st : InterfaceState) (kept : Option (Option InterfaceRequest)) (request : Option InterfaceRequest) → kept ≡ Some request → request ≡ spare_request row st → st.is_first ≡ true → asks_nothing row.proto
    ≡ false → st.number
    ≡ None → IsAtHand row kept
is_at_hand row st kept request here is first requests none =
    let all : (st.is_first && (is_none st.number && not (asks_nothing row.proto))) ≡ true =
    ap (λ b. b && (is_none st.number && not (asks_nothing row.proto))) first
    ∙ ap (λ (n : Option ℕ). is_none n && not (asks_nothing row.proto)) none
    ∙ ap not requests in
    let made : InterfaceRequest = record { name = row.name; proto = row.proto; options = in_order row.options; device = st.device } in
    let found : kept ≡ Some (Some made) = here ∙ ap (λ (a : Option InterfaceRequest). Some a) (is ∙ ap (λ b. cond {A = Option InterfaceRequest} b (Some made) None) all) in
    (made, found, record { name = refl; proto = refl; options = refl })

-- the request for what stands at a place is that for each that does
pub spare_of : (states : List InterfaceState) (place : ℕ) (row : InterfaceRow) (st : InterfaceState) (request : Option InterfaceRequest) → place < length states → st ≡ get_or states place st → request ≡ spare_request row st
    → IsSpare states place row request
spare_of states place row st request within read is other here =
    let at = slice_get_read states (length states) place st refl within read in
    is ∙ ap (spare_request row) (same_Some st other (sym at ∙ here))

-- ---- all is kept

pub tied : (inputs : Inputs) (states : States) → IsReachOf inputs states.reach → AreOwnRequests inputs → AreBeside (IsNotedIdle inputs) inputs.conf.interfaces states.list.items
    → AreBeside (IsSpare states.list.items) inputs.conf.interfaces states.spare.items → length inputs.conf.interfaces ≤ vec_capacity states.lost → IsTied inputs states
tied inputs states reach own noted spare room = record {
  reach = reach;
  own = own;
  noted = record {
    size = noted.size;
    spare_size = spare.size;
    first = λ place row st at here. (noted.each place row st at here).first;
    each = λ place row st at here. (noted.each place row st at here).noted;
    at_hand = λ place row st at here first requests none.
        let size = spare.size in
        let within = slice_get_within inputs.conf.interfaces place row at in
        let found : slice_get states.spare.items place ≡ Some (get_or states.spare.items place None) = slice_get-get_or states.spare.items place None (omega arith) in
        is_at_hand row st (slice_get states.spare.items place) (get_or states.spare.items place None) found (spare.each place row (get_or states.spare.items place None) at found st here) first requests none;
  };
  room = room;
}

pub tied_by : (inputs : Inputs) (states : States) (rows : List InterfaceRow) (seen : List InterfaceState) → rows ≡ inputs.conf.interfaces → seen ≡ states.list.items → IsReachOf inputs states.reach → AreOwnRequests inputs
    → AreBeside (IsNotedIdle inputs) rows states.list.items → AreBeside (IsSpare seen) rows states.spare.items → length rows ≤ vec_capacity states.lost → IsTied inputs states
tied_by inputs states rows seen all same reach own noted spare room =
    tied inputs states reach own
    (subst (λ (z : List InterfaceRow). AreBeside (IsNotedIdle inputs) z states.list.items) all noted)
    (subst (λ (z : List InterfaceRow). AreBeside (IsSpare states.list.items) z states.spare.items) all (subst (λ (z : List InterfaceState). AreBeside (IsSpare z) rows states.spare.items) same spare))
    (subst (λ (z : List InterfaceRow). length z ≤ vec_capacity states.lost) all room)

-- none is claimed or up
pub idle_all : (inputs : Inputs) (rows : List InterfaceRow) (states : List InterfaceState) → AreBeside (IsNotedIdle inputs) rows states → AreIdle states
idle_all inputs rows states noted place st here =
    elim (slice_get_cases rows place).1 as (λ _. IsIdle st) [
      | inl there ↦ (noted.each place there.0 st there.2 here).idle
      | inr past ↦ let size = noted.size in let within = slice_get_within states place st here in let end = past.0 in absurd (omega arith)
    ]
