-- Places that come to a set, and the walk up from a name.
use Rattle.std.proofs.Common.{arith, ◌≡◌, ◌⊎◌, inl, inr, ◌+◌, ◌<◌, ◌≤◌, ℕ, List, [], ◌∷◌, ◌++◌, length, get_or, slice_get, Bool, true, false, cond, eqb, Contains, Bor, Option, Some, None, refl, sym, ap, subst, ◌∙◌, eqb-true, eq-eqb}
use Rattle.std.proofs.Common.{append-nil, append_assoc}
use Rattle.std.specs.Prelude.{◌&&◌, not, nat_lt}
use Rattle.std.proofs.lemmas.Bool.Decides.{leb_tells, Decides-ltb}
use Rattle.std.proofs.lemmas.List.Elements.{Contains-append_left, Contains-push, Contains-push_cases}
use Rattle.std.proofs.lemmas.List.{get_or_append_left}
use Rattle.std.proofs.lemmas.Option.{slice_get_within, slice_get_read, slice_get-get_or, get_or_from_slice_get}
use Rattle.kern_model.proofs.MemberLemmas.{first_or_later, none_in_nil, here, there}
use Rattle.kern_model.proofs.TestLemmas.{from_any}
use Rattle.std.specs.Option.{option_map}
use Rattle.std.specs.Slice.{IsItemAt}
use Rattle.net_view.specs.RadioPorts.{group_in}
use Rattle.net_view.proofs.PlaceLemmas.{read_at}
use Rattle.net_reach.specs.Places.{Places, has, with_place, with_places}
use Rattle.net_reach.specs.Groups.{Groups}
use Rattle.net_reach.specs.Walk.{Leads, Stays, IsClimbed, AreClimbed, IsAt, Touches, TouchesOnly, IsAtRow, HasTouched}

-- ---- places that stay

pub stays_itself : (set : Places) → Stays set set
stays_itself set = record { bound = refl; more = []; list = sym (append-nil set.list) }

pub stays_then : (old mid new : Places) → Stays old mid → Stays mid new → Stays old new
stays_then old mid new first then = record {
  bound = then.bound ∙ first.bound;
  more = first.more ++ then.more;
  list = then.list ∙ ap (λ (z : List ℕ). z ++ then.more) first.list ∙ append_assoc old.list first.more then.more;
}

pub still_in : (old new : Places) (place : ℕ) → Stays old new → Contains old.list place → Contains new.list place
still_in old new place stays inside = subst (λ (z : List ℕ). Contains z place) (sym stays.list) (Contains-append_left old.list stays.more place inside)

pub still_at : (old new : Places) (turn place : ℕ) → Stays old new → turn < length old.list → slice_get new.list turn ≡ Some place → slice_get old.list turn ≡ Some place
still_at old new turn place stays within is =
    slice_get_read old.list (length old.list) turn place refl within
    (sym (sym (get_or_append_left old.list stays.more place turn within) ∙ ap (λ (z : List ℕ). get_or z turn place) (sym stays.list) ∙ get_or_from_slice_get new.list turn place place is))

-- ---- one place

one_stays : (b : Bool) (set : Places) (place : ℕ) → Stays set (cond b (record set { list = set.list ++ place ∷ [] }) set)
one_stays true set place = record { bound = refl; more = place ∷ []; list = refl }
one_stays false set place = stays_itself set

one_comes : (b c : Bool) (set : Places) (place : ℕ) → b ≡ true → (c ≡ true → Contains set.list place) → Contains (cond (b && not c) (record set { list = set.list ++ place ∷ [] }) set).list place
one_comes true true set place test had = had refl
one_comes true false set place test had = Contains-push set.list place
one_comes false c set place test had = cc test

had_place : (list : List ℕ) (place : ℕ) → has list place ≡ true → Contains list place
had_place list place h =
    let found = from_any (eqb place) list h in
    subst (Contains list) (sym (eqb-true place found.passing found.passes)) found.member

below : (a b : ℕ) → a < b → nat_lt a b ≡ true
below a b h = (Decides-ltb a b).1 h

one_only : (b : Bool) (set : Places) (place other : ℕ) → Contains (cond b (record set { list = set.list ++ place ∷ [] }) set).list other → Contains set.list other ⊎ (place ≡ other)
one_only true set place other inside = Contains-push_cases set.list place other inside
one_only false set place other inside = inl inside

-- ---- several places

pub more_stay : (set : Places) (places : List ℕ) → Stays set (with_places set places)
more_stay set [] = stays_itself set
more_stay set (place ∷ places) = stays_then set (with_place set place) (with_places set (place ∷ places)) (one_stays (nat_lt place set.bound && not (has set.list place)) set place) (more_stay (with_place set place) places)

pub more_come : (set : Places) (places : List ℕ) (place : ℕ) → Contains places place → place < set.bound → Contains (with_places set places).list place
more_come set [] place inside within = absurd (none_in_nil place inside)
more_come set (other ∷ places) place inside within =
    let first = one_stays (nat_lt other set.bound && not (has set.list other)) set other in
    elim (first_or_later other places place inside) as (λ _. Contains (with_places set (other ∷ places)).list place) [
      | inl same ↦ still_in (with_place set other) (with_places set (other ∷ places)) place (more_stay (with_place set other) places)
          (subst (Contains (with_place set other).list) same (one_comes (nat_lt other set.bound) (has set.list other) set other (below other set.bound (subst (λ k. k < set.bound) (sym same) within)) (had_place set.list other)))
      | inr later ↦ more_come (with_place set other) places place later (subst (λ k. place < k) (sym first.bound) within)
    ]

pub more_only : (set : Places) (places : List ℕ) (other : ℕ) → Contains (with_places set places).list other → Contains set.list other ⊎ Contains places other
more_only set [] other inside = inl inside
more_only set (place ∷ places) other inside =
    elim (more_only (with_place set place) places other inside) as (λ _. Contains set.list other ⊎ Contains (place ∷ places) other) [
      | inl had ↦ elim (one_only (nat_lt place set.bound && not (has set.list place)) set place other had) as (λ _. Contains set.list other ⊎ Contains (place ∷ places) other) [
        | inl old ↦ inl old
        | inr same ↦ inr (subst (Contains (place ∷ places)) same (here place places))
      ]
      | inr later ↦ inr (there place places other later)
    ]

-- ---- the places of a name

pub leads_to : (groups : Groups) (name : List ℕ) (set new : Places) (places : List ℕ) → places ≡ group_in groups name → new ≡ with_places set places → Leads groups name new
leads_to groups name set new places are made place inside within =
    subst (λ (s : Places). Contains s.list place) (sym made)
    (more_come set places place (subst (λ (z : List ℕ). Contains z place) (sym are) inside)
    (subst (λ k. place < k) (ap (λ (s : Places). s.bound) made ∙ (more_stay set places).bound) within))

pub stays_with : (set new : Places) (places : List ℕ) → new ≡ with_places set places → Stays set new
stays_with set new places made = subst (Stays set) (sym made) (more_stay set places)

pub still_leads : (groups : Groups) (name : List ℕ) (old new : Places) → Stays old new → Leads groups name old → Leads groups name new
still_leads groups name old new stays leads place inside within = still_in old new place stays (leads place inside (subst (λ k. place < k) stays.bound within))

pub only_with : (set new : Places) (places : List ℕ) (other : ℕ) → new ≡ with_places set places → Contains new.list other → Contains set.list other ⊎ Contains places other
only_with set new places other made inside = more_only set places other (subst (λ (s : Places). Contains s.list other) made inside)

-- ---- climbing

pub climbed_first : (above : Groups) (names : List (List ℕ)) (base : List ℕ) (set new : Places) (places : List ℕ) → set.list ≡ [] → places ≡ group_in above base → new ≡ with_places set places → AreClimbed above names base new
climbed_first above names base set new places none are made place inside =
    elim (only_with set new places place made inside) as (λ _. IsClimbed above names base place) [
      | inl old ↦ absurd (none_in_nil place (subst (λ (z : List ℕ). Contains z place) none old))
      | inr right ↦ IsClimbed.first place (subst (λ (z : List ℕ). Contains z place) are right)
    ]

pub climbed_further : (above : Groups) (names : List (List ℕ)) (base : List ℕ) (set new : Places) (places : List ℕ) (lower : ℕ) (name : List ℕ) → Contains set.list lower → slice_get names lower ≡ Some name → places ≡ group_in above name
    → new ≡ with_places set places → AreClimbed above names base set → AreClimbed above names base new
climbed_further above names base set new places lower name member named are made climbed place inside =
    elim (only_with set new places place made inside) as (λ _. IsClimbed above names base place) [
      | inl old ↦ climbed place old
      | inr right ↦ IsClimbed.further place lower name (climbed lower member) named (subst (λ (z : List ℕ). Contains z place) are right)
    ]

pub in_at : (list : List ℕ) (turn place : ℕ) → slice_get list turn ≡ Some place → Contains list place
in_at list turn place is = (turn, slice_get_within list turn place is, get_or_from_slice_get list turn place place is)

pub at_turn : (list : List ℕ) (place : ℕ) → Contains list place → (turn : ℕ) × (turn < length list) × (slice_get list turn ≡ Some place)
at_turn list place inside = (inside.0, inside.1, slice_get_read list (length list) inside.0 place refl inside.1 (sym inside.2))

-- the rows so far have theirs
abbrev pub HasClimbed : Groups → List (List ℕ) → ℕ → Places → Type 0
HasClimbed above names next rows =
    (turn place : ℕ) (name : List ℕ) → turn < next → slice_get rows.list turn ≡ Some place → slice_get names place ≡ Some name → Leads above name rows

pub climbed_more : (above : Groups) (names : List (List ℕ)) (next : ℕ) (old new : Places) → next < length old.list → Stays old new
    → ((place : ℕ) (name : List ℕ) → slice_get old.list next ≡ Some place → slice_get names place ≡ Some name → Leads above name new) → HasClimbed above names next old → HasClimbed above names (next + 1) new
climbed_more above names next old new within stays here before turn place name sooner is named = at (eqb turn next) refl
  where
    below_other : (a b : ℕ) → a < b + 1 → (a ≡ b → ⊥) → a < b
    below_other a b h apart = elim (leb_tells b a) as (λ _. a < b) [ inl t ↦ absurd (apart (let up = t.1 in omega arith)) | inr f ↦ f.1 ]

    at : (b : Bool) → eqb turn next ≡ b → Leads above name new
    at true h =
        let same : turn ≡ next = eqb-true turn next h in
        here place name (still_at old new next place stays within (subst (λ k. slice_get new.list k ≡ Some place) same is)) named
    at false h =
        let apart : turn ≡ next → ⊥ = λ same. cc (sym h ∙ eq-eqb turn next same) in
        let less : turn < next = below_other turn next sooner apart in
        still_leads above name old new stays (before turn place name less (still_at old new turn place stays (omega arith) is) named)

pub climbed_all : (above : Groups) (names : List (List ℕ)) (next : ℕ) (rows : Places) → length rows.list ≤ next → HasClimbed above names next rows → (place : ℕ) (name : List ℕ) → Contains rows.list place → slice_get names place ≡ Some name
    → Leads above name rows
climbed_all above names next rows all climbed place name inside named =
    let turn = at_turn rows.list place inside in
    climbed turn.0 place name (let low = turn.1 in omega arith) turn.2 named

-- ---- touching

pub touches_only : (at_device at_l3_device : Groups) (name : List ℕ) (old mid new : Places) (first second : List ℕ) → first ≡ group_in at_device name → second ≡ group_in at_l3_device name → mid ≡ with_places old first → new
    ≡ with_places mid second
    → TouchesOnly at_device at_l3_device name old new
touches_only at_device at_l3_device name old mid new first second are told one two place inside =
    elim (only_with mid new second place two inside) as (λ _. Contains old.list place ⊎ IsAt at_device at_l3_device name place) [
      | inl before ↦ elim (only_with old mid first place one before) as (λ _. Contains old.list place ⊎ IsAt at_device at_l3_device name place) [
        | inl was ↦ inl was
        | inr device ↦ inr (inl (subst (λ (z : List ℕ). Contains z place) are device))
      ]
      | inr l3_device ↦ inr (inr (subst (λ (z : List ℕ). Contains z place) told l3_device))
    ]

pub still_touches : (at_device at_l3_device : Groups) (name : List ℕ) (old new : Places) → Stays old new → Touches at_device at_l3_device name old → Touches at_device at_l3_device name new
still_touches at_device at_l3_device name old new stays touches = record {
  device = still_leads at_device name old new stays touches.device;
  l3_device = still_leads at_l3_device name old new stays touches.l3_device;
}

pub touched_none : (at_device at_l3_device : Groups) (names : List (List ℕ)) (set : Places) → HasTouched at_device at_l3_device names [] set set
touched_none at_device at_l3_device names set = record {
  stays = stays_itself set;
  touches = λ row name inside named. absurd (none_in_nil row inside);
  only = λ place inside. inl inside;
}

-- the rows are one more, of which nothing came
pub touched_unnamed : (at_device at_l3_device : Groups) (names : List (List ℕ)) (rows : List ℕ) (row : ℕ) (old new : Places) → slice_get names row ≡ None → HasTouched at_device at_l3_device names rows old new
    → HasTouched at_device at_l3_device names (rows ++ row ∷ []) old new
touched_unnamed at_device at_l3_device names rows row old new none was = record {
  stays = was.stays;
  touches = λ other name inside named.
      elim (Contains-push_cases rows row other inside) as (λ _. Touches at_device at_l3_device name new) [
        | inl sooner ↦ was.touches other name sooner named
        | inr same ↦ let both : None ≡ Some name = sym none ∙ ap (slice_get names) same ∙ named in cc both
      ];
  only = λ place inside. later (was.only place inside);
}
  where
    later : {place : ℕ} → Contains old.list place ⊎ IsAtRow at_device at_l3_device names rows place → Contains old.list place ⊎ IsAtRow at_device at_l3_device names (rows ++ row ∷ []) place
    later {place} (inl had) = inl had
    later {place} (inr at) = inr (record { row = at.row; member = Contains-append_left rows (row ∷ []) at.row at.member; name = at.name; named = at.named; at = at.at })

-- the rows are one more, and those at its name came
pub touched_named : (at_device at_l3_device : Groups) (names : List (List ℕ)) (rows : List ℕ) (row : ℕ) (name : List ℕ) (old mid new : Places) → slice_get names row ≡ Some name → Stays mid new → Touches at_device at_l3_device name new
    → TouchesOnly at_device at_l3_device name mid new → HasTouched at_device at_l3_device names rows old mid → HasTouched at_device at_l3_device names (rows ++ row ∷ []) old new
touched_named at_device at_l3_device names rows row name old mid new is stays touches only was = record {
  stays = stays_then old mid new was.stays stays;
  touches = λ other called inside named.
      elim (Contains-push_cases rows row other inside) as (λ _. Touches at_device at_l3_device called new) [
        | inl sooner ↦ still_touches at_device at_l3_device called mid new stays (was.touches other called sooner named)
        | inr same ↦
            let both : Some name ≡ Some called = sym is ∙ ap (slice_get names) same ∙ named in
            let one : name ≡ called = cc both in
            subst (λ (z : List ℕ). Touches at_device at_l3_device z new) one touches
      ];
  only = λ place inside.
      elim (only place inside) as (λ _. Contains old.list place ⊎ IsAtRow at_device at_l3_device names (rows ++ row ∷ []) place) [
        | inl before ↦ later (was.only place before)
        | inr at ↦ inr (record { row = row; member = Contains-push rows row; name = name; named = is; at = at })
      ];
}
  where
    later : {place : ℕ} → Contains old.list place ⊎ IsAtRow at_device at_l3_device names rows place → Contains old.list place ⊎ IsAtRow at_device at_l3_device names (rows ++ row ∷ []) place
    later {place} (inl had) = inl had
    later {place} (inr at) = inr (record { row = at.row; member = Contains-append_left rows (row ∷ []) at.row at.member; name = at.name; named = at.named; at = at.at })

-- what a read of a list gave
pub read_some : {X : Type 0} (xs : List X) (i : ℕ) (r : Option (Bor X)) (x : Bor X) → IsItemAt xs i r → r ≡ Some x → slice_get xs i ≡ Some x.now
read_some {X} xs i r x read is = sym (read_at (λ (b : Bor X). b.now) xs i r read) ∙ ap (option_map (λ (b : Bor X). b.now)) is

pub read_none : {X : Type 0} (xs : List X) (i : ℕ) (r : Option (Bor X)) → IsItemAt xs i r → r ≡ None → slice_get xs i ≡ None
read_none {X} xs i r read is = sym (read_at (λ (b : Bor X). b.now) xs i r read) ∙ ap (option_map (λ (b : Bor X). b.now)) is

pub read_index : (list seen : List ℕ) (i : ℕ) → i < length list → seen ≡ list → slice_get list i ≡ Some (get_or seen i 0)
read_index list seen i within same = slice_get-get_or list i 0 within ∙ ap (λ (z : List ℕ). Some (get_or z i 0)) (sym same)
