-- What is kept of interfaces while the request of one moves.
use Rattle.std.proofs.Common.{inl, inr, ℕ, ◌≡◌, ◌≤◌, List, length, Bool, true, false, Option, Some, None, refl, ap, sym, subst, ◌∙◌}
use Rattle.std.specs.Prelude.{◌==◌, slice_get, slice_set, vec_capacity}
use Rattle.std.specs.Option.{option_map}
use Rattle.std.proofs.lemmas.Bool.Decides.{Decides-eqb}
use Rattle.net_rows.specs.declared.rows.InterfaceRow.{InterfaceRow}
use Rattle.net_rules.specs.declared.inputs.Inputs.{Inputs}
use Rattle.net_rules.specs.declared.inputs.OpenInterface.{OpenInterface}
use Rattle.net_rules.specs.Rows.{asks_nothing}
use Rattle.net_rules.specs.Inputs.{facts_of}
use Rattle.net_reach.specs.Reach.{IsReachOf}
use Rattle.net_states.specs.SettlingState.{SettlingState}
use Rattle.net_rules.specs.declared.state.InterfaceState.{InterfaceState}
use Rattle.net_rules.specs.States.{is_first, IsIdle}
use Rattle.net_rules.proofs.MoveLemmas.{some_is}
use Rattle.asked_places.specs.Touched.{has}
use Rattle.net_states.specs.declared.states.States.{States}
use Rattle.net_states.specs.Kept.{number_of, IsNoted, IsNotedAs, IsAtHand, AreOwnRequests, AreNoted, IsTied}
use Rattle.net_states.specs.Counted.{IsCountedBy}
use Rattle.state_requests.specs.Asking.{AreBetween}
use Rattle.state_requests.proofs.ListLemmas.{set_here, set_other, set_size}
use Rattle.state_requests.proofs.RowLemmas.{moved, OthersSame, other_name, follow_still}
use Rattle.state_requests.proofs.CountLemmas.{numbered, IsQuiet, claims_still, agrees_still, givers_still, room_still}

-- the request of the interface at a place is kept in another way
pub record IsKeptOtherwise (place : ℕ) (st : InterfaceState) (n : Option ℕ) (before now : States) : Type 0 where
  pub list : now.list.items ≡ slice_set before.list.items place (numbered st n)
  pub spare_size : length now.spare.items ≡ length before.spare.items
  pub spare_others : (p : ℕ) → (p ≡ place → ⊥) → slice_get now.spare.items p ≡ slice_get before.spare.items p
  pub room : vec_capacity now.lost ≡ vec_capacity before.lost

-- the request of the first row of a name moves, which has no answer then
pub record Moves (inputs : Inputs) (os : List OpenInterface) (next : ℕ) (place : ℕ) (row : InterfaceRow) (n : Option ℕ) (now : States) : Type 0 where
  pub others : OthersSame inputs os next row.name
  pub silent : (facts_of (moved inputs os next)).answer row.name ≡ None
  pub number : n ≡ number_of (moved inputs os next) row.name
  pub hand : n ≡ None → IsAtHand row (slice_get now.spare.items place)
  pub own : AreOwnRequests (moved inputs os next)
  pub reach : IsReachOf (moved inputs os next) now.reach

module _ (inputs : Inputs) (os : List OpenInterface) (next : ℕ) (place : ℕ) (row : InterfaceRow) (st : InterfaceState) (n : Option ℕ) (before now : States) (at : slice_get inputs.conf.interfaces place ≡ Some row)
    (here_is : slice_get before.list.items place ≡ Some st) (st_first : st.is_first ≡ true) (was : IsTied inputs before) (kept : IsKeptOtherwise place st n before now) (moves : Moves inputs os next place row n now) where
  abbrev after : Inputs
  after = moved inputs os next

  row_first : is_first inputs.conf.interfaces place row.name ≡ true
  row_first = sym (was.noted.first place row st at here_is) ∙ st_first

  pub state_here : (s : InterfaceState) → slice_get now.list.items place ≡ Some s → numbered st n ≡ s
  state_here s s_at = some_is (numbered st n) s (sym (set_here before.list.items place st (numbered st n) here_is) ∙ sym (ap (λ (xs : List InterfaceState). slice_get xs place) kept.list) ∙ s_at)

  pub states_there : (p : ℕ) → (p ≡ place → ⊥) → slice_get now.list.items p ≡ slice_get before.list.items p
  states_there p other = ap (λ (xs : List InterfaceState). slice_get xs p) kept.list ∙ set_other before.list.items place p (numbered st n) other

  -- a fact of the states at all places, told of the one at the place and of all others
  pub at_each : (P : ℕ → InterfaceRow → InterfaceState → Type 0) → P place row (numbered st n)
      → ((p : ℕ) (r : InterfaceRow) (s : InterfaceState) → (p ≡ place → ⊥) → slice_get inputs.conf.interfaces p ≡ Some r → slice_get before.list.items p ≡ Some s → P p r s) → (p : ℕ) (r : InterfaceRow) (s : InterfaceState)
      → slice_get inputs.conf.interfaces p ≡ Some r → slice_get now.list.items p ≡ Some s → P p r s
  at_each P own others p r s r_at s_at = by (p == place) refl
    where
      by : (b : Bool) → (p == place) ≡ b → P p r s
      by true is =
          let same : p ≡ place = (Decides-eqb p place).0 is in
          let r_is : row ≡ r = some_is row r (sym at ∙ ap (slice_get inputs.conf.interfaces) (sym same) ∙ r_at) in
          let s_is : numbered st n ≡ s = state_here s (ap (slice_get now.list.items) (sym same) ∙ s_at) in
          subst (λ q. P q r s) (sym same) (subst (λ x. P place x s) r_is (subst (λ x. P place row x) s_is own))
      by false is =
          let other : p ≡ place → ⊥ = λ e. let yes = (Decides-eqb p place).1 e in cc (is, yes) in
          others p r s other r_at (sym (states_there p other) ∙ s_at)

  number_there : (p : ℕ) (r : InterfaceRow) → slice_get inputs.conf.interfaces p ≡ Some r → is_first inputs.conf.interfaces p r.name ≡ true → (p ≡ place → ⊥) → number_of after r.name ≡ number_of inputs r.name
  number_there p r r_at r_first other = ap (λ (o : Option OpenInterface). option_map (λ (x : OpenInterface). x.number) o)
      (moves.others r.name (other_name inputs os next row.name moves.others place row refl at row_first p r r_at r_first other))

  noted_there : (p : ℕ) (r : InterfaceRow) (s : InterfaceState) → (p ≡ place → ⊥) → slice_get inputs.conf.interfaces p ≡ Some r → slice_get before.list.items p ≡ Some s → (b : Bool) → s.is_first ≡ b → IsNotedAs b inputs r s
      → IsNotedAs b after r s
  noted_there p r s other r_at s_at true is h = record {
    device = h.device;
    number = h.number ∙ sym (number_there p r r_at (sym (was.noted.first p r s r_at s_at) ∙ is) other);
  }
  noted_there p r s other r_at s_at false is h = h

  noted_here : IsNotedAs st.is_first after row (numbered st n)
  noted_here =
      let old : IsNoted inputs row st = subst (λ b. IsNotedAs b inputs row st) st_first (was.noted.each place row st at here_is) in
      let new : IsNoted after row (numbered st n) = record { device = old.device; number = moves.number } in
      subst (λ b. IsNotedAs b after row (numbered st n)) (sym st_first) new

  hand_there : (p : ℕ) (r : InterfaceRow) → (p ≡ place → ⊥) → IsAtHand r (slice_get before.spare.items p) → IsAtHand r (slice_get now.spare.items p)
  hand_there p r other h = subst (IsAtHand r) (sym (kept.spare_others p other)) h

  pub noted_still : AreNoted after now
  noted_still = record {
    size = ap (λ (xs : List InterfaceState). length xs) kept.list ∙ set_size before.list.items place (numbered st n) ∙ was.noted.size;
    spare_size = kept.spare_size ∙ was.noted.spare_size;
    first = at_each (λ p r s. s.is_first ≡ is_first inputs.conf.interfaces p r.name) (was.noted.first place row st at here_is) (λ p r s other r_at s_at. was.noted.first p r s r_at s_at);
    each = at_each (λ p r s. IsNotedAs s.is_first after r s) noted_here (λ p r s other r_at s_at. noted_there p r s other r_at s_at s.is_first refl (was.noted.each p r s r_at s_at));
    at_hand = at_each (λ p r s. s.is_first ≡ true → asks_nothing r.proto ≡ false → s.number ≡ None → IsAtHand r (slice_get now.spare.items p)) (λ f requests none. moves.hand none)
        (λ p r s other r_at s_at f requests none. hand_there p r other (was.noted.at_hand p r s r_at s_at f requests none));
  }

  pub tied_still : IsTied after now
  tied_still = record {
    reach = moves.reach;
    own = moves.own;
    noted = noted_still;
    room = subst (λ k. length inputs.conf.interfaces ≤ k) (sym kept.room) was.room;
  }

  module _ (places : List ℕ) (c : SettlingState) (between : AreBetween inputs places before c) (touched : has places place ≡ true) where
    st_idle : IsIdle st
    st_idle = between.idle place st here_is touched

    quiet : (p : ℕ) (r : InterfaceRow) (s : InterfaceState) → slice_get inputs.conf.interfaces p ≡ Some r → slice_get before.list.items p ≡ Some s → IsQuiet inputs os next row.name moves.others r s
    quiet p r s r_at s_at = by (p == place) refl
      where
        first : (p ≡ place → ⊥) → (b : Bool) → s.is_first ≡ b → IsNotedAs b inputs r s → IsQuiet inputs os next row.name moves.others r s
        first other true is h = inr (other_name inputs os next row.name moves.others place row refl at row_first p r r_at (sym (was.noted.first p r s r_at s_at) ∙ is) other)
        first other false is h = inl h.idle.up

        by : (b : Bool) → (p == place) ≡ b → IsQuiet inputs os next row.name moves.others r s
        by true is =
            let same : p ≡ place = (Decides-eqb p place).0 is in
            inl (between.idle p s s_at (ap (has places) same ∙ touched)).up
        by false is = first (λ e. let yes = (Decides-eqb p place).1 e in cc (is, yes)) s.is_first refl (was.noted.each p r s r_at s_at)

    counted_set : IsCountedBy after (slice_set before.list.items place (numbered st n)) c
    counted_set = record {
      agrees = agrees_still inputs os next row.name moves.others c.graph.known between.counted.agrees;
      counted = record {
        claims = λ name. between.counted.counted.claims name ∙ sym (claims_still before.list.items place st n here_is name);
        givers = givers_still inputs os next row.name moves.others before.list.items c.gifts place row st n quiet at here_is between.counted.counted.givers;
      };
      room = room_still inputs os next row.name moves.others moves.silent c.gifts between.counted.room;
    }

    idle_at : (p : ℕ) (s : InterfaceState) → slice_get now.list.items p ≡ Some s → has places p ≡ true → IsIdle s
    idle_at p s s_at there = by (p == place) refl
      where
        by : (b : Bool) → (p == place) ≡ b → IsIdle s
        by true is =
            let same : p ≡ place = (Decides-eqb p place).0 is in
            let s_is : numbered st n ≡ s = state_here s (ap (slice_get now.list.items) (sym same) ∙ s_at) in
            subst IsIdle s_is (record { claimed = st_idle.claimed; up = st_idle.up })
        by false is =
            let other : p ≡ place → ⊥ = λ e. let yes = (Decides-eqb p place).1 e in cc (is, yes) in
            between.idle p s (sym (states_there p other) ∙ s_at) there

    pub between_still : AreBetween after places now c
    between_still = record {
      tied = tied_still;
      idle = idle_at;
      follow = follow_still inputs os next row.name moves.others place row refl at row_first places before.list.items now.list.items touched states_there between.follow;
      counted = subst (λ (xs : List InterfaceState). IsCountedBy after xs c) (sym kept.list) counted_set;
    }
