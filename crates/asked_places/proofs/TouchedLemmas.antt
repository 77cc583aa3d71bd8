-- What is opened where asks were lost before.
use Rattle.std.proofs.Common.{ℕ, ◌≡◌, List, [], ◌∷◌, length, Option, refl, ap, ◌∙◌}
use Rattle.std.specs.Prelude.{filter, filter_map, is_none}
use Rattle.std.specs.List.{cons_option}
use Rattle.net_rows.specs.declared.rows.InterfaceRow.{InterfaceRow}
use Rattle.net_rules.specs.declared.request.InterfaceRequest.{InterfaceRequest}
use Rattle.net_rules.specs.declared.inputs.Inputs.{Inputs}
use Rattle.net_rules.specs.Numbers.{AreRising}
use Rattle.net_rules.specs.Inputs.{facts_of, open_interface}
use Rattle.net_rules.specs.Need.{interface_need}
use Rattle.net_rules.proofs.NeedLemmas.{same_need}
use Rattle.net_rules.specs.Touched.{touched_rows, touched_requests}
use Rattle.asked_places.specs.Touched.{is_touched}
use Rattle.asked_places.specs.Losing.{left_at}
use Rattle.asked_places.specs.Opening.{opened_at}
use Rattle.asked_places.proofs.OpenLemmas.{opened_are}

needs_same : (inputs now : Inputs) → ((row : InterfaceRow) → interface_need (facts_of now) row ≡ interface_need (facts_of inputs) row) → (rows : List InterfaceRow) → filter_map (interface_need (facts_of now)) rows
    ≡ filter_map (interface_need (facts_of inputs)) rows
needs_same inputs now same [] = refl
needs_same inputs now same (row ∷ rows) =
    ap (λ (o : Option InterfaceRequest). cons_option o (filter_map (interface_need (facts_of now)) rows)) (same row)
    ∙ ap (cons_option (interface_need (facts_of inputs) row)) (needs_same inputs now same rows)

pub opened_touched : (inputs : Inputs) (places : List ℕ) → AreRising 0 (length inputs.conf.interfaces) places → filter_map (opened_at (left_at inputs places)) places
    ≡ touched_requests inputs (is_touched inputs.conf.interfaces places) (left_at inputs places).interfaces
opened_touched inputs places rising =
    let now = left_at inputs places in
    opened_are now places rising
    ∙ ap (λ requests. filter (λ (request : InterfaceRequest). is_none (open_interface now.interfaces request.name)) requests)
    (needs_same inputs now (λ row. same_need (facts_of inputs) (facts_of now).answer row) (touched_rows inputs.conf (is_touched inputs.conf.interfaces places)))
