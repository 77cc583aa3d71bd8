-- The ask that is lost at a place.
use Rattle.std.proofs.Common.{ℕ, ◌≡◌, List, [], ◌∷◌, Bool, true, false, cond, Contains, Option, Some, None, refl, ap, sym, ◌∙◌}
use Rattle.std.specs.Prelude.{not, ◌||◌, bytes_eq, slice_get}
use Rattle.std.specs.Option.{option_and_then}
use Rattle.std.proofs.lemmas.Bool.Decides.{Decides-eqb}
use Rattle.kern_model.proofs.TestLemmas.{bytes_same, same_bytes, false_of_not}
use Rattle.net_rows.specs.declared.rows.InterfaceRow.{InterfaceRow}
use Rattle.net_rules.specs.declared.inputs.Inputs.{Inputs}
use Rattle.net_rules.specs.declared.inputs.OpenInterface.{OpenInterface}
use Rattle.net_rules.specs.Inputs.{facts_of, open_interface}
use Rattle.net_rules.proofs.OnceLemmas.{all_kept}
use Rattle.net_rules.specs.Touched.{is_needed}
use Rattle.net_rules.proofs.AskedLemmas.{filter_alike}
use Rattle.known_inputs.specs.Known.{StandOnce}
use Rattle.known_inputs.specs.Steps.{place_of, has_number, request_of, without_request}
use Rattle.known_inputs.proofs.FoundLemmas.{found_numbered, found_named}
use Rattle.net_rules.specs.States.{is_first}
use Rattle.net_rules.proofs.MoveLemmas.{some_is}
use Rattle.asked_places.specs.Touched.{names_of_rows, is_touched}
use Rattle.asked_places.specs.Losing.{lost_number, lost_row, lost_at, left_at}
use Rattle.asked_places.proofs.PlaceLemmas.{place_of_first, first_at_place, touched_one, touches_one}

-- what is lost at the place of a first row
pub lost_of_row : (inputs : Inputs) (place : ℕ) (row : InterfaceRow) → slice_get inputs.conf.interfaces place ≡ Some row → is_first inputs.conf.interfaces place row.name ≡ true → lost_at inputs place
    ≡ lost_number (facts_of inputs) (open_interface inputs.interfaces row.name)
lost_of_row inputs place row at first =
    ap (option_and_then (lost_row inputs place)) at
    ∙ ap (λ b. cond {A = Option ℕ} b (lost_number (facts_of inputs) (open_interface inputs.interfaces row.name)) None) first

module _ (inputs : Inputs) (once : StandOnce inputs) where
  -- requests of one name, or of one number, are one
  one_of_name : (a b : OpenInterface) → Contains inputs.interfaces a → open_interface inputs.interfaces b.request.name ≡ Some b → a.request.name ≡ b.request.name → a ≡ b
  one_of_name a b member found same = some_is a b (sym (found_named inputs a once member) ∙ ap (open_interface inputs.interfaces) same ∙ found)

  pub one_of_number : (a b : OpenInterface) → Contains inputs.interfaces a → Contains inputs.interfaces b → a.number ≡ b.number → a ≡ b
  one_of_number a b first second same = some_is a b (sym (found_numbered inputs a once first) ∙ ap (request_of inputs) same ∙ found_numbered inputs b once second)

  module _ (place : ℕ) (row : InterfaceRow) (o : OpenInterface) (at : slice_get inputs.conf.interfaces place ≡ Some row) (first : is_first inputs.conf.interfaces place row.name ≡ true) (member : Contains inputs.interfaces o)
      (named : o.request.name ≡ row.name) (needless : is_needed (facts_of inputs) o ≡ false) where
    abbrev rows : List InterfaceRow
    rows = inputs.conf.interfaces

    abbrev left : OpenInterface → Bool
    left a = not (is_touched rows (place ∷ []) a.request.name) || is_needed (facts_of inputs) a

    agree : (a : OpenInterface) → Contains inputs.interfaces a → left a ≡ not (has_number o.number a)
    agree a inside = by (bytes_eq a.request.name o.request.name) refl
      where
        by : (b : Bool) → bytes_eq a.request.name o.request.name ≡ b → left a ≡ not (has_number o.number a)
        by true is =
            let same : a ≡ o = one_of_name a o inside (found_named inputs o once member) (bytes_same a.request.name o.request.name is) in
            let on : is_touched rows (place ∷ []) o.request.name ≡ true = touches_one rows place o.request.name (ap (place_of (names_of_rows rows)) named ∙ place_of_first rows place row at first) in
            ap left same
            ∙ ap (λ b. not b || is_needed (facts_of inputs) o) on
            ∙ needless
            ∙ ap not (sym ((Decides-eqb o.number o.number).1 refl))
            ∙ ap (λ (x : OpenInterface). not (has_number o.number x)) (sym same)
        by false is =
            let off : is_touched rows (place ∷ []) a.request.name ≡ false = false_of_not (is_touched rows (place ∷ []) a.request.name) (λ h.
            let there = first_at_place rows a.request.name place (touched_one rows place a.request.name h) in
            let one : there.row ≡ row = some_is there.row row (sym there.at ∙ at) in
            let same : a.request.name ≡ o.request.name = sym there.named ∙ ap (λ (r : InterfaceRow). r.name) one ∙ sym named in
            let yes : bytes_eq a.request.name o.request.name ≡ true = same_bytes a.request.name o.request.name same in
            cc (is, yes)) in
            let other : has_number o.number a ≡ false = false_of_not (has_number o.number a) (λ h.
            let one : a ≡ o = one_of_number a o inside member ((Decides-eqb a.number o.number).0 h) in
            let yes : bytes_eq a.request.name o.request.name ≡ true = same_bytes a.request.name o.request.name (ap (λ (x : OpenInterface). x.request.name) one) in
            cc (is, yes)) in
            ap (λ b. not b || is_needed (facts_of inputs) a) off ∙ ap not (sym other)

    pub one_left : left_at inputs (place ∷ []) ≡ without_request inputs o.number
    one_left = ap (λ (os : List OpenInterface). let now : Inputs = record inputs { interfaces = os } in now) (filter_alike left (λ (a : OpenInterface). not (has_number o.number a)) inputs.interfaces agree)

    pub one_lost : lost_at inputs place ≡ Some o.number
    one_lost =
        lost_of_row inputs place row at first
        ∙ ap (lost_number (facts_of inputs)) (ap (open_interface inputs.interfaces) (sym named) ∙ found_named inputs o once member)
        ∙ ap (λ b. cond {A = Option ℕ} b None (Some o.number)) needless

  -- where none is lost all are left
  pub all_left : (place : ℕ) → lost_at inputs place ≡ None → left_at inputs (place ∷ []) ≡ inputs
  all_left place none =
      ap (λ (os : List OpenInterface). let now : Inputs = record inputs { interfaces = os } in now)
      (all_kept (λ (a : OpenInterface). not (is_touched inputs.conf.interfaces (place ∷ []) a.request.name) || is_needed (facts_of inputs) a) inputs.interfaces
      (λ a inside. by a inside (is_touched inputs.conf.interfaces (place ∷ []) a.request.name) refl))
    where
      needed : (a : OpenInterface) (b : Bool) → is_needed (facts_of inputs) a ≡ b → cond {A = Option ℕ} b None (Some a.number) ≡ None → b ≡ true
      needed a true is h = refl
      needed a false is h = cc h

      by : (a : OpenInterface) → Contains inputs.interfaces a → (b : Bool) → is_touched inputs.conf.interfaces (place ∷ []) a.request.name ≡ b → (not b || is_needed (facts_of inputs) a) ≡ true
      by a inside true on =
          let there = first_at_place inputs.conf.interfaces a.request.name place (touched_one inputs.conf.interfaces place a.request.name on) in
          let first : is_first inputs.conf.interfaces place there.row.name ≡ true = ap (is_first inputs.conf.interfaces place) there.named ∙ there.first in
          let lost : lost_number (facts_of inputs) (Some a) ≡ None =
          ap (lost_number (facts_of inputs)) (sym (ap (open_interface inputs.interfaces) there.named ∙ found_named inputs a once inside))
          ∙ sym (lost_of_row inputs place there.row there.at first)
          ∙ none in
          needed a (is_needed (facts_of inputs) a) refl lost
      by a inside false off = refl
