-- The row of a route.
use Rattle.std.proofs.Common.{◌≡◌, ℕ, List, [], ◌∷◌, Option, Some, codes, ap, ◌∙◌}
use Rattle.std.specs.Prelude.{option_map, option_to_list}
use Rattle.uci_tree.specs.declared.package.Opt.{Opt}
use Rattle.uci_tree.specs.declared.package.Section.{Section}
use Rattle.net_rows.specs.declared.rows.RouteRow.{RouteRow}
use Rattle.net_interfaces.specs.declared.address.Family.{Family}
use Rattle.net_interfaces.specs.Names.{place_given}
use Rattle.net_interfaces.specs.Routes.{family_of, route_row, route_in}

pub row_is : (names : List (List ℕ)) (section : Section) (interface : Option ℕ) (options : List Opt) (family : Family) (row : RouteRow) → row ≡ route_row interface options family → interface ≡ place_given names (codes "interface") options
    → options ≡ section.options → Some family ≡ family_of section → row ∷ [] ≡ option_to_list (route_in names section)
row_is names section interface options family row is place own kind =
    ap (λ (z : RouteRow). z ∷ []) (is ∙ ap (λ (z : Option ℕ). route_row z options family) place)
    ∙ ap (λ (z : List Opt). route_row (place_given names (codes "interface") z) z family ∷ []) own
    ∙ ap (λ (z : Option Family). option_to_list (option_map (route_row (place_given names (codes "interface") section.options) section.options) z)) kind
