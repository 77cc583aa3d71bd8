-- What is counted over interfaces stays while the request of one moves that has no answer then.
use Rattle.std.proofs.Common.{arith, ◌⊎◌, inl, inr, ℕ, ◌≡◌, ◌≤◌, ◌+◌, ◌^◌, List, [], ◌++◌, length, Bool, true, false, cond, Option, Some, None, refl, ap, sym, subst, ◌∙◌}
use Rattle.std.specs.Prelude.{◌||◌, is_some, bytes_eq, slice_get, slice_set}
use Rattle.std.specs.Option.{option_and_then}
use Rattle.std.proofs.lemmas.List.{length-append}
use Rattle.kern_model.specs.declared.object.Object.{Object}
use Rattle.kern_model.proofs.TestLemmas.{bytes_same}
use Rattle.net_rows.specs.declared.rows.InterfaceRow.{InterfaceRow}
use Rattle.net_rules.specs.declared.answer.Answer.{Answer}
use Rattle.net_rules.specs.declared.inputs.Inputs.{Inputs}
use Rattle.net_rules.specs.declared.inputs.OpenInterface.{OpenInterface}
use Rattle.net_rules.specs.Rows.{asks_nothing, is_static}
use Rattle.net_rules.specs.RadioPorts.{device_of}
use Rattle.net_rules.specs.Interfaces.{answer_of, device_or_own, l3_device_of}
use Rattle.net_rules.specs.Want.{of_options, of_answer, of_sections, given_by}
use Rattle.net_rules.specs.Inputs.{facts_of}
use Rattle.given_objects.specs.Gifts.{Gifts}
use Rattle.graph_rules.specs.State.{Known}
use Rattle.net_rules.specs.declared.state.InterfaceState.{InterfaceState}
use Rattle.net_rules.specs.Claims.{uses_by, claim_of, claims_of}
use Rattle.net_rules.proofs.MoveLemmas.{count_moves}
use Rattle.net_gifts.specs.Giving.{times_in, gives, all_gives, HasGivers, HavePlaces}
use Rattle.net_gifts.proofs.TimesLemmas.{times_move, gives_agree}
use Rattle.net_states.specs.Counted.{AgreesWith, needs_no_answer, HasGiftRoom}
use Rattle.state_requests.proofs.RowLemmas.{moved, OthersSame, answer_same}

-- ---- what depends on a state but for its number

-- a state with another number
abbrev pub numbered : InterfaceState → Option ℕ → InterfaceState
numbered st n = record st { number = n }

pub claims_still : (states : List InterfaceState) (place : ℕ) (st : InterfaceState) (n : Option ℕ) → slice_get states place ≡ Some st → (name : List ℕ) → claims_of (slice_set states place (numbered st n)) name ≡ claims_of states name
claims_still states place st n here_is name =
    let k : ℕ = claim_of name st in
    let moves : claims_of (slice_set states place (numbered st n)) name + k ≡ claims_of states name + k = count_moves (uses_by name) states place st (numbered st n) here_is in
    omega (arith, moves)

module _ (inputs : Inputs) (os : List OpenInterface) (next : ℕ) (name : List ℕ) (others : OthersSame inputs os next name) where
  abbrev now : Inputs
  now = moved inputs os next

  pub agrees_still : (s : Known) → AgreesWith inputs s → AgreesWith now s
  agrees_still s agrees = record {
    below = record { rows = agrees.below.rows; vlans = agrees.below.vlans; radio = agrees.below.radio; devices = agrees.below.devices };
    knows = agrees.knows;
  }

  -- ---- an interface with the same answer gives the same

  module _ (r : InterfaceRow) (same : answer_of (facts_of now) r ≡ answer_of (facts_of inputs) r) where
    needs_same : needs_no_answer (facts_of now) r ≡ needs_no_answer (facts_of inputs) r
    needs_same = ap (λ (a : Option Answer). asks_nothing r.proto || is_some a) same

    l3_device_same : l3_device_of (facts_of now) r ≡ l3_device_of (facts_of inputs) r
    l3_device_same = ap (λ (a : Option Answer). device_or_own (option_and_then (λ (x : Answer). x.device) a) (device_of (facts_of inputs) r)) same

    given_same : (l3_device : Option (List ℕ)) → given_by (facts_of now) r l3_device ≡ given_by (facts_of inputs) r l3_device
    given_same None = refl
    given_same (Some dev) = ap (λ (a : Option Answer). cond {A = List Object} (is_static r.proto) (of_options r dev) (of_answer dev a) ++ of_sections (facts_of inputs) r dev) same

  other_answer : (r : InterfaceRow) → bytes_eq r.name name ≡ false → answer_of (facts_of now) r ≡ answer_of (facts_of inputs) r
  other_answer r other = ap (λ (a : Option Answer). cond {A = Option Answer} (asks_nothing r.proto) None a) (answer_same inputs os next name others r.name other)

  -- ---- the givers

  -- an interface that is not up, or has another name
  abbrev pub IsQuiet : InterfaceRow → InterfaceState → Type 0
  IsQuiet r s = (s.is_up ≡ false) ⊎ (bytes_eq r.name name ≡ false)

  gives_same : (r : InterfaceRow) (s : InterfaceState) → IsQuiet r s → gives (facts_of now) r s ≡ gives (facts_of inputs) r s
  gives_same r s quiet = elim quiet as (λ _. gives (facts_of now) r s ≡ gives (facts_of inputs) r s) [
    | inl down ↦ ap (λ b. cond {A = List Object} b (given_by (facts_of now) r s.l3_device) []) down ∙ sym (ap (λ b. cond {A = List Object} b (given_by (facts_of inputs) r s.l3_device) []) down)
    | inr other ↦ ap (λ os. cond {A = List Object} s.is_up os []) (given_same r (other_answer r other) s.l3_device)
  ]

  pub givers_still : (states : List InterfaceState) (gs : Gifts) (place : ℕ) (row : InterfaceRow) (st : InterfaceState) (n : Option ℕ)
      → ((p : ℕ) (r : InterfaceRow) (s : InterfaceState) → slice_get inputs.conf.interfaces p ≡ Some r → slice_get states p ≡ Some s → IsQuiet r s) → slice_get inputs.conf.interfaces place ≡ Some row → slice_get states place ≡ Some st
      → HasGivers (facts_of inputs) inputs.conf.interfaces states gs → HasGivers (facts_of now) inputs.conf.interfaces (slice_set states place (numbered st n)) gs
  givers_still states gs place row st n quiet at here_is was = λ o.
      let rows = inputs.conf.interfaces in
      let g : InterfaceRow × InterfaceState → List Object = λ e. gives (facts_of now) e.0 e.1 in
      let k : ℕ = times_in o (gives (facts_of now) row st) in
      let moves : times_in o (all_gives (facts_of now) rows (slice_set states place (numbered st n))) + k ≡ times_in o (all_gives (facts_of now) rows states) + k = times_move g rows states place row st (numbered st n) o at here_is in
      let alike : times_in o (all_gives (facts_of now) rows states) ≡ times_in o (all_gives (facts_of inputs) rows states) =
      ap (times_in o) (gives_agree g (λ (e : InterfaceRow × InterfaceState). gives (facts_of inputs) e.0 e.1) rows states (λ p r s r_at s_at. gives_same r s (quiet p r s r_at s_at))) in
      let back : times_in o (all_gives (facts_of now) rows (slice_set states place (numbered st n))) ≡ times_in o (all_gives (facts_of now) rows states) = omega (arith, moves) in
      was o ∙ sym alike ∙ sym back

  -- ---- the room of gifts

  module _ (silent : (facts_of now).answer name ≡ None) where
    no_answer : (r : InterfaceRow) → bytes_eq r.name name ≡ true → answer_of (facts_of now) r ≡ None
    no_answer r same =
        ap (λ (a : Option Answer). cond {A = Option Answer} (asks_nothing r.proto) None a) (ap (facts_of now).answer (bytes_same r.name name same) ∙ silent)
        ∙ none (asks_nothing r.proto)
      where
        none : (b : Bool) → cond {A = Option Answer} b None None ≡ None
        none true = refl
        none false = refl

    -- one that needs no answer has the same
    same_silent : (r : InterfaceRow) (b : Bool) → bytes_eq r.name name ≡ b → needs_no_answer (facts_of now) r ≡ true → answer_of (facts_of now) r ≡ answer_of (facts_of inputs) r
    same_silent r false is needs = other_answer r is
    same_silent r true is needs =
        let is_none : answer_of (facts_of now) r ≡ None = no_answer r is in
        let nothing : (asks_nothing r.proto || false) ≡ true = sym (ap (λ (a : Option Answer). asks_nothing r.proto || is_some a) is_none) ∙ needs in
        is_none ∙ sym (ap (λ b. cond {A = Option Answer} b None ((facts_of inputs).answer r.name)) (alone (asks_nothing r.proto) nothing))
      where
        alone : (b : Bool) → (b || false) ≡ true → b ≡ true
        alone true h = refl
        alone false h = h

    few_still : (r : InterfaceRow) (l3_device : Option (List ℕ)) (b : Bool) → bytes_eq r.name name ≡ b → length (given_by (facts_of inputs) r l3_device) ≤ 2 ^ 50 → length (given_by (facts_of now) r l3_device) ≤ 2 ^ 50
    few_still r l3_device false is h = subst (λ (xs : List Object). length xs ≤ 2 ^ 50) (sym (given_same r (other_answer r is) l3_device)) h
    few_still r None true is h = h
    few_still r (Some dev) true is h =
        let rest : List Object = of_sections (facts_of inputs) r dev in
        subst (λ (a : Option Answer). length (cond {A = List Object} (is_static r.proto) (of_options r dev) (of_answer dev a) ++ rest) ≤ 2 ^ 50) (sym (no_answer r is))
        (fewer (is_static r.proto) (of_options r dev) (of_answer dev (answer_of (facts_of inputs) r)) rest h)
      where
        fewer : (b : Bool) (xs ys zs : List Object) → length (cond b xs ys ++ zs) ≤ 2 ^ 50 → length (cond b xs [] ++ zs) ≤ 2 ^ 50
        fewer true xs ys zs h = h
        fewer false xs ys zs h =
            let all : length (ys ++ zs) ≡ length ys + length zs = length-append ys zs in
            omega (arith, all, h)

    pub room_still : (gs : Gifts) → HasGiftRoom inputs gs → HasGiftRoom now gs
    room_still gs room = record {
      places = λ p r r_at r_first needs.
          let same = same_silent r (bytes_eq r.name name) refl needs in
          let was = room.places p r r_at r_first (sym (needs_same r same) ∙ needs) in
          subst (HavePlaces gs) (sym (ap (given_by (facts_of now) r) (l3_device_same r same) ∙ given_same r same (l3_device_of (facts_of inputs) r))) was;
      few = λ r l3_device member. few_still r l3_device (bytes_eq r.name name) refl (room.few r l3_device member);
      rows = room.rows;
    }
