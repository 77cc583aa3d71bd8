-- An open request is what the handler of its row is asked.
use Rattle.std.proofs.Common.{◌≡◌, Bool, true, false, cond, Contains, Some, None, ap, sym, ◌∙◌}
use Rattle.std.specs.Prelude.{not, ◌&&◌}
use Rattle.std.specs.Option.{option_map, option_and_then}
use Rattle.net_rows.specs.declared.rows.InterfaceRow.{InterfaceRow}
use Rattle.net_rules.specs.declared.request.InterfaceRequest.{InterfaceRequest}
use Rattle.net_rules.specs.declared.inputs.Inputs.{Inputs}
use Rattle.net_rules.specs.declared.inputs.OpenInterface.{OpenInterface}
use Rattle.net_rules.specs.Facts.{Facts}
use Rattle.net_rules.specs.Rows.{asks_nothing, interface_named}
use Rattle.net_rules.specs.Interfaces.{is_ready}
use Rattle.net_rules.specs.Need.{interface_request, interface_need}
use Rattle.net_rules.specs.Inputs.{facts_of, open_interface}
use Rattle.net_rules.specs.After.{interface_need_of}
use Rattle.net_rules.specs.Fresh.{IsReached}
use Rattle.net_rules.proofs.OnceLemmas.{found_once}
use Rattle.net_rules.proofs.ReachedLemmas.{reached_kept}
use Rattle.net_rules.proofs.MoveLemmas.{some_is}

own_by : (facts : Facts) (row : InterfaceRow) (request : InterfaceRequest) (b : Bool) → cond b (Some (interface_request facts row)) None ≡ Some request → request ≡ interface_request facts row
own_by facts row request true is = sym (some_is (interface_request facts row) request is)
own_by facts row request false is = cc is

pub own_requests : (inputs : Inputs) → IsReached inputs → (o : OpenInterface) (row : InterfaceRow) → Contains inputs.interfaces o → interface_named inputs.conf o.request.name ≡ Some row → o.request ≡ interface_request (facts_of inputs) row
own_requests inputs reached o row member named =
    let kept = reached_kept inputs reached in
    let found : open_interface inputs.interfaces o.request.name ≡ Some o = found_once (λ (x : OpenInterface). x.request.name) inputs.interfaces kept.single.interfaces o member in
    let need : interface_need_of (facts_of inputs) o.request.name ≡ Some o.request = sym (kept.are.interfaces o.request.name) ∙ ap (option_map (λ (x : OpenInterface). x.request)) found in
    let its : interface_need_of (facts_of inputs) o.request.name ≡ interface_need (facts_of inputs) row = ap (option_and_then (interface_need (facts_of inputs))) named in
    own_by (facts_of inputs) row o.request (is_ready (facts_of inputs) row && not (asks_nothing row.proto)) (sym its ∙ need)
