-- The first row of a name, and inputs in which nothing but its open request, and the next number, differs.
use Rattle.std.proofs.Common.{ℕ, zero, suc, ◌≡◌, List, [], ◌∷◌, take, Bool, true, false, cond, Option, Some, refl, ap, sym, ◌∙◌}
use Rattle.std.specs.Prelude.{not, ◌||◌, bytes_eq, find, position, slice_get}
use Rattle.std.specs.List.{list_any}
use Rattle.std.specs.Option.{option_map, option_and_then}
use Rattle.kern_model.proofs.TestLemmas.{bytes_same, same_bytes, false_of_not}
use Rattle.uci_tree.proofs.FoldLemmas.{position-cons}
use Rattle.net_rows.specs.declared.rows.InterfaceRow.{InterfaceRow}
use Rattle.net_rules.specs.declared.inputs.Inputs.{Inputs}
use Rattle.net_rules.specs.declared.inputs.OpenInterface.{OpenInterface}
use Rattle.net_rules.specs.Inputs.{facts_of, open_interface}
use Rattle.known_inputs.specs.Steps.{place_of}
use Rattle.net_rules.specs.declared.state.InterfaceState.{InterfaceState}
use Rattle.net_rules.specs.States.{is_first, IsStateAs}
use Rattle.net_rules.proofs.AnswerLemmas.{state_same}
use Rattle.net_rules.proofs.MoveLemmas.{some_is}
use Rattle.asked_places.specs.Touched.{has, names_of_rows}
use Rattle.asked_places.proofs.PlaceLemmas.{place_of_first}
use Rattle.net_states.specs.Kept.{FollowBut}

-- first rows at two places have two names
pub named_apart : (rows : List InterfaceRow) (p q : ℕ) (a b : InterfaceRow) → slice_get rows p ≡ Some a → is_first rows p a.name ≡ true → slice_get rows q ≡ Some b → is_first rows q b.name ≡ true → (q ≡ p → ⊥) → bytes_eq b.name a.name
    ≡ false
named_apart rows p q a b a_at a_first b_at b_first other = false_of_not (bytes_eq b.name a.name) (λ h.
    other (some_is q p (sym (place_of_first rows q b b_at b_first) ∙ ap (place_of (names_of_rows rows)) (bytes_same b.name a.name h) ∙ place_of_first rows p a a_at a_first)))

-- the first row of a name is found by it
pub first_found : (rows : List InterfaceRow) (place : ℕ) (row : InterfaceRow) → slice_get rows place ≡ Some row → is_first rows place row.name ≡ true → find (λ (r : InterfaceRow). bytes_eq r.name row.name) rows ≡ Some row
first_found [] place row at first = cc at
first_found (r ∷ rs) zero row at first =
    let same : r ≡ row = some_is r row at in
    ap (λ b. cond b (Some r) (find (λ (x : InterfaceRow). bytes_eq x.name row.name) rs)) (same_bytes r.name row.name (ap (λ (x : InterfaceRow). x.name) same))
    ∙ at
first_found (r ∷ rs) (suc k) row at first = by (bytes_eq r.name row.name) refl first (λ h. first_found rs k row at h)
  where
    by : (b : Bool) → bytes_eq r.name row.name ≡ b → not (b || list_any (λ x. bytes_eq x.name row.name) (take k rs)) ≡ true
        → (not (list_any (λ x. bytes_eq x.name row.name) (take k rs)) ≡ true → find (λ (x : InterfaceRow). bytes_eq x.name row.name) rs ≡ Some row)
        → cond (bytes_eq r.name row.name) (Some r) (find (λ (x : InterfaceRow). bytes_eq x.name row.name) rs) ≡ Some row
    by true is h rest = cc h
    by false is h rest = ap (λ b. cond b (Some r) (find (λ (x : InterfaceRow). bytes_eq x.name row.name) rs)) is ∙ rest h

-- and its place among the rows is that of its name
pub position_named : (rows : List InterfaceRow) (name : List ℕ) → position (λ (row : InterfaceRow). bytes_eq row.name name) rows ≡ place_of (names_of_rows rows) name
position_named [] name = refl
position_named (r ∷ rs) name =
    position-cons (λ (row : InterfaceRow). bytes_eq row.name name) r rs
    ∙ ap (λ (o : Option ℕ). cond {A = Option ℕ} (bytes_eq r.name name) (Some 0) (option_map (λ k. suc k) o)) (position_named rs name)
    ∙ sym (position-cons (λ other. bytes_eq other name) r.name (names_of_rows rs))

module _ (inputs : Inputs) (os : List OpenInterface) (next : ℕ) where
  abbrev pub moved : Inputs
  moved = record inputs { interfaces = os; next = next }

  -- the requests of other interfaces are the same
  abbrev pub OthersSame : List ℕ → Type 0
  OthersSame name = (q : List ℕ) → bytes_eq q name ≡ false → open_interface os q ≡ open_interface inputs.interfaces q

  module _ (name : List ℕ) (others : OthersSame name) where
    pub answer_same : (q : List ℕ) → bytes_eq q name ≡ false → (facts_of moved).answer q ≡ (facts_of inputs).answer q
    answer_same q other = ap (λ (o : Option OpenInterface). option_and_then (λ (x : OpenInterface). x.answer) o) (others q other)

    module _ (place : ℕ) (row : InterfaceRow) (named : row.name ≡ name) (at : slice_get inputs.conf.interfaces place ≡ Some row) (first : is_first inputs.conf.interfaces place row.name ≡ true) where
      -- the first row of another place has another name
      pub other_name : (p : ℕ) (r : InterfaceRow) → slice_get inputs.conf.interfaces p ≡ Some r → is_first inputs.conf.interfaces p r.name ≡ true → (p ≡ place → ⊥) → bytes_eq r.name name ≡ false
      other_name p r r_at r_first other = ap (bytes_eq r.name) (sym named) ∙ named_apart inputs.conf.interfaces place p row r at first r_at r_first other

      state_as : (p : ℕ) (r : InterfaceRow) (s : InterfaceState) → slice_get inputs.conf.interfaces p ≡ Some r → (p ≡ place → ⊥) → (b : Bool) → is_first inputs.conf.interfaces p r.name ≡ b → IsStateAs b (facts_of inputs) r s
          → IsStateAs b (facts_of moved) r s
      state_as p r s r_at other true is h = state_same (facts_of inputs) (facts_of moved).answer r (answer_same r.name (other_name p r r_at is other)) s h
      state_as p r s r_at other false is h = h

      -- other interfaces are what they were
      pub follow_still : (places : List ℕ) (before now : List InterfaceState) → has places place ≡ true → ((p : ℕ) → (p ≡ place → ⊥) → slice_get now p ≡ slice_get before p) → FollowBut inputs places before → FollowBut moved places now
      follow_still places before now touched same was = λ p r s r_at s_at untouched.
          let other : p ≡ place → ⊥ = λ e. let yes = ap (has places) e ∙ touched in cc (yes, untouched) in
          state_as p r s r_at other (is_first inputs.conf.interfaces p r.name) refl (was p r s r_at (sym (same p other) ∙ s_at) untouched)
