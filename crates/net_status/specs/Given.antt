-- The addresses and routes of an interface, without those of `route` sections.
use Rattle.std.specs.Prelude.{ℕ, List, [], map, filter, codes, Bool, true, false, Option, Some, None, if◌then◌else◌}
use Rattle.std.specs.Option.{option_map}
use Rattle.serde_json.specs.Data.{Data, object, member, no_members}
use Rattle.net_addr.specs.declared.address.Addr.{Addr}
use Rattle.net_addr.specs.declared.address.Addr.TheVariants as family
use Rattle.net_addr.specs.Printed.{addr_text}
use Rattle.net_rows.specs.declared.rows.InterfaceRow.{InterfaceRow}
use Rattle.net_rules.specs.declared.answer.Answer.{Answer}
use Rattle.net_rules.specs.declared.answer.AnswerRoute.{AnswerRoute}
use Rattle.net_rules.specs.Facts.{Facts}
use Rattle.net_rules.specs.Rows.{is_static}
use Rattle.net_rules.specs.Interfaces.{answer_of, is_up}
use Rattle.net_rules.specs.Want.{everything}
use Rattle.net_status.specs.declared.given.Family.{Family}
use Rattle.net_status.specs.declared.given.Family.TheVariants as wanted
use Rattle.net_status.specs.Values.{text, text_or_null, whole, list}

abbrev pub told_addresses : Option Answer → List (Addr × ℕ)
told_addresses None = []
told_addresses (Some answer) = answer.addresses

abbrev pub told_routes : Option Answer → List AnswerRoute
told_routes None = []
told_routes (Some answer) = answer.routes

-- a route to everything by a gateway
abbrev pub gateway_route : ℕ → Addr → AnswerRoute
gateway_route metric gateway =
    record { target = everything gateway; via = Some gateway; metric = metric }

-- the addresses of an interface that is up, in the order of its options or of its answer
abbrev pub addresses_of : Facts → InterfaceRow → List (Addr × ℕ)
addresses_of facts row =
    if is_up facts row
    then (if is_static row.proto then row.addresses else told_addresses (answer_of facts row))
    else []

-- its routes, those of a static one by its gateways
abbrev pub routes_of : Facts → InterfaceRow → List AnswerRoute
routes_of facts row =
    if is_up facts row
    then (if is_static row.proto then map (gateway_route row.metric) row.gateways
    else told_routes (answer_of facts row))
    else []

abbrev pub is_of_family : Family → Addr → Bool
is_of_family wanted.V4 (family.V4 a) = true
is_of_family wanted.V4 (family.V6 a) = false
is_of_family wanted.V6 (family.V4 a) = false
is_of_family wanted.V6 (family.V6 a) = true

abbrev pub address_item : Addr × ℕ → Data
address_item cidr = object (member (codes "address") (text (addr_text cidr.0))
    (member (codes "mask") (whole cidr.1) no_members))

-- the addresses of a family
abbrev pub address_list : Family → List (Addr × ℕ) → Data
address_list wanted addresses =
    list (map address_item (filter (λ cidr. is_of_family wanted cidr.0) addresses))

abbrev pub route_item : AnswerRoute → Data
route_item route = object (member (codes "mask") (whole route.target.1)
    (member (codes "metric") (whole route.metric)
    (member (codes "nexthop") (text_or_null (option_map addr_text route.via))
    (member (codes "target") (text (addr_text route.target.0)) no_members))))
