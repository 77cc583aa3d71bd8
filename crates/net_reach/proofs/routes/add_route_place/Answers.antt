use Rattle.std.proofs.Common.{List, [], ◌∷◌, ◌++◌, Bool, false, Option, None, cond, sym, ap, ◌∙◌, append-nil}
use Rattle.std.specs.Prelude.{bytes_eq, not, ◌&&◌}
use Rattle.std.specs.List.{slice_get}
use Rattle.std.specs.Option.{option_map_or, option_and_then}
use Rattle.net_rules.specs.Rows.{is_faultless}
use Rattle.net_rows.proofs.WordLemmas.{on_ok_then}
use Rattle.net_rows.specs.declared.rows.InterfaceRow.{InterfaceRow}
use Rattle.net_view.specs.RadioPorts.{group_in}
use Rattle.net_wants.proofs.GroupLemmas.{route_named}
use Rattle.net_reach.proofs.routes.add_route_place.Goals as goal

pub returns-in-Some : goal.returns-in-Some
returns-in-Some c = on_ok_then c.add_place_of_text.result (λ made q. made q
    ∙ ap (λ (b : Bool). group_in c.args.groups.now q ++ cond b (c.args.place ∷ []) [])
    (ap (λ (o : Option InterfaceRow). option_map_or (λ (row : InterfaceRow). bytes_eq row.name q) o false)
    (c.in-Some.ensures ∙ ap (λ (z : List InterfaceRow). cond (is_faultless c.args.route.now.faults && not c.args.route.now.disabled) (option_and_then (slice_get z) c.args.route.now.interface) None) c.as_slice.ensures)
    ∙ route_named c.args.inputs.now.conf c.args.route.now q)) c.add_place_of_text.ensures

pub returns-in-None : goal.returns-in-None
returns-in-None c = λ q. sym (append-nil (group_in c.args.groups.now q))
    ∙ ap (λ (b : Bool). group_in c.args.groups.now q ++ cond b (c.args.place ∷ []) [])
    (ap (λ (o : Option InterfaceRow). option_map_or (λ (row : InterfaceRow). bytes_eq row.name q) o false)
    (c.in-None.ensures ∙ ap (λ (z : List InterfaceRow). cond (is_faultless c.args.route.now.faults && not c.args.route.now.disabled) (option_and_then (slice_get z) c.args.route.now.interface) None) c.as_slice.ensures)
    ∙ route_named c.args.inputs.now.conf c.args.route.now q)
