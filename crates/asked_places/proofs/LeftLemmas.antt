-- Requests that are left, place by place.
use Rattle.std.proofs.Common.{ℕ, ◌≡◌, List, [], ◌∷◌, ◌++◌, Bool, true, false, cond, Option, Some, None, refl, ap, sym, ◌∙◌}
use Rattle.std.specs.Prelude.{not, ◌&&◌, ◌||◌, option_to_list, slice_get}
use Rattle.std.specs.List.{cons_option}
use Rattle.std.specs.Option.{option_map_or, option_and_then}
use Rattle.std.proofs.lemmas.List.Elements.{filter_agree, filter_map-append}
use Rattle.net_rows.specs.declared.rows.InterfaceRow.{InterfaceRow}
use Rattle.net_rules.specs.declared.answer.Answer.{Answer}
use Rattle.net_rules.specs.declared.request.InterfaceRequest.{InterfaceRequest}
use Rattle.net_rules.specs.declared.inputs.Inputs.{Inputs}
use Rattle.net_rules.specs.declared.inputs.OpenInterface.{OpenInterface}
use Rattle.net_rules.specs.Facts.{Facts}
use Rattle.net_rules.specs.Inputs.{facts_of, open_interface}
use Rattle.net_rules.specs.Need.{same_interface_request}
use Rattle.net_rules.specs.After.{is_same_need}
use Rattle.net_rules.proofs.NeedLemmas.{same_need_of}
use Rattle.net_rules.specs.Touched.{is_needed}
use Rattle.net_rules.proofs.AskedLemmas.{left_found}
use Rattle.known_inputs.specs.Steps.{place_of}
use Rattle.net_rules.specs.States.{is_first}
use Rattle.net_rules.proofs.PairLemmas.{filter_twice, all_pass}
use Rattle.asked_places.specs.Touched.{has, names_of_rows, is_touched}
use Rattle.asked_places.specs.Losing.{lost_number, lost_row, lost_at, lost_at_places, left_at}
use Rattle.asked_places.proofs.PlaceLemmas.{touched_behind, place_of_first}

-- whether a request is needed reads no answers
pub needed_same : (facts : Facts) (answer : List ℕ → Option Answer) (o : OpenInterface) → is_needed (record facts { answer = answer }) o ≡ is_needed facts o
needed_same facts answer o = ap (λ (need : Option InterfaceRequest). is_same_need same_interface_request need o.request) (same_need_of facts answer o.request.name)

-- at no place all are left
none_touched : (rows : List InterfaceRow) (name : List ℕ) (o : Option ℕ) → option_map_or (has []) o false ≡ false
none_touched rows name None = refl
none_touched rows name (Some place) = refl

pub left_none : (inputs : Inputs) → left_at inputs [] ≡ inputs
left_none inputs =
    ap (λ (os : List OpenInterface). let now : Inputs = record inputs { interfaces = os } in now)
    (filter_agree (λ (o : OpenInterface). not (is_touched inputs.conf.interfaces [] o.request.name) || is_needed (facts_of inputs) o) (λ o. true)
    (λ o. ap (λ b. not b || is_needed (facts_of inputs) o) (none_touched inputs.conf.interfaces o.request.name (place_of (names_of_rows inputs.conf.interfaces) o.request.name))) inputs.interfaces
    ∙ all_pass inputs.interfaces)

-- a place more
both_left : (a b n : Bool) → ((not b || n) && (not a || n)) ≡ (not (a || b) || n)
both_left true true true = refl
both_left true true false = refl
both_left true false true = refl
both_left true false false = refl
both_left false true true = refl
both_left false true false = refl
both_left false false n = refl

pub left_more : (inputs : Inputs) (done : List ℕ) (place : ℕ) → left_at (left_at inputs done) (place ∷ []) ≡ left_at inputs (done ++ place ∷ [])
left_more inputs done place =
    let rows = inputs.conf.interfaces in
    let facts = facts_of inputs in
    let now = facts_of (left_at inputs done) in
    ap (λ (os : List OpenInterface). let after : Inputs = record inputs { interfaces = os } in after)
    (filter_twice (λ (o : OpenInterface). not (is_touched rows (place ∷ []) o.request.name) || is_needed now o) (λ (o : OpenInterface). not (is_touched rows done o.request.name) || is_needed facts o) inputs.interfaces
    ∙ filter_agree (λ (o : OpenInterface). (not (is_touched rows (place ∷ []) o.request.name) || is_needed now o) && (not (is_touched rows done o.request.name) || is_needed facts o))
    (λ (o : OpenInterface). not (is_touched rows (done ++ place ∷ []) o.request.name) || is_needed facts o)
    (λ o.
    ap (λ n. (not (is_touched rows (place ∷ []) o.request.name) || n) && (not (is_touched rows done o.request.name) || is_needed facts o)) (needed_same facts now.answer o)
    ∙ both_left (is_touched rows done o.request.name) (is_touched rows (place ∷ []) o.request.name) (is_needed facts o)
    ∙ ap (λ b. not b || is_needed facts o) (sym (touched_behind rows done (place ∷ []) o.request.name)))
    inputs.interfaces)

-- what is lost at another place
lost_same : (facts : Facts) (answer : List ℕ → Option Answer) (found : Option OpenInterface) → lost_number (record facts { answer = answer }) found ≡ lost_number facts found
lost_same facts answer None = refl
lost_same facts answer (Some o) = ap (λ b. cond {A = Option ℕ} b None (Some o.number)) (needed_same facts answer o)

pub lost_still : (inputs : Inputs) (done : List ℕ) (place : ℕ) → has done place ≡ false → lost_at (left_at inputs done) place ≡ lost_at inputs place
lost_still inputs done place other = by (slice_get inputs.conf.interfaces place) refl
  where
    rows : List InterfaceRow
    rows = inputs.conf.interfaces

    first : (row : InterfaceRow) → slice_get inputs.conf.interfaces place ≡ Some row → (b : Bool) → is_first inputs.conf.interfaces place row.name ≡ b
        → cond {A = Option ℕ} b (lost_number (facts_of (left_at inputs done)) (open_interface (left_at inputs done).interfaces row.name)) None
        ≡ cond {A = Option ℕ} b (lost_number (facts_of inputs) (open_interface inputs.interfaces row.name)) None
    first row at true is =
        let off : is_touched inputs.conf.interfaces done row.name ≡ false = ap (λ (o : Option ℕ). option_map_or (has done) o false) (place_of_first inputs.conf.interfaces place row at is) ∙ other in
        lost_same (facts_of inputs) (facts_of (left_at inputs done)).answer (open_interface (left_at inputs done).interfaces row.name)
        ∙ ap (lost_number (facts_of inputs)) (left_found (facts_of inputs) (is_touched inputs.conf.interfaces done) row.name off inputs.interfaces)
    first row at false is = refl

    by : (found : Option InterfaceRow) → slice_get inputs.conf.interfaces place ≡ found → option_and_then (lost_row (left_at inputs done) place) found ≡ option_and_then (lost_row inputs place) found
    by None at = refl
    by (Some row) at = first row at (is_first inputs.conf.interfaces place row.name) refl

pub numbers_more : (inputs : Inputs) (done : List ℕ) (place : ℕ) → lost_at_places inputs (done ++ place ∷ []) ≡ lost_at_places inputs done ++ option_to_list (lost_at inputs place)
numbers_more inputs done place = filter_map-append (lost_at inputs) done (place ∷ []) ∙ ap (λ ns. lost_at_places inputs done ++ ns) (alone (lost_at inputs place))
  where
    alone : (o : Option ℕ) → cons_option o [] ≡ option_to_list o
    alone None = refl
    alone (Some n) = refl
