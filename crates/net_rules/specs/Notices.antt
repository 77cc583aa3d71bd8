-- What is told of requests after an event: the numbers of those that were lost, rising, then the new
-- ones, interfaces in file order and then radios.
use Rattle.std.specs.Prelude.{ℕ, List, ◌++◌, map, filter, not, nat_le, unwrap_or, bytes_eq, ◌==◌}
use Rattle.std.specs.List.{list_any, position}
use Rattle.std.specs.Ordering.{nat_cmp}
use Rattle.plane_words.specs.InOrder.{ordered}
use Rattle.net_rows.specs.declared.rows.Conf.{Conf}
use Rattle.net_rules.specs.declared.inputs.Inputs.{Inputs}
use Rattle.net_rules.specs.declared.inputs.OpenInterface.{OpenInterface}
use Rattle.net_rules.specs.declared.inputs.OpenRadio.{OpenRadio}
use Rattle.net_rules.specs.declared.event.Event.{Event}
use Rattle.net_rules.specs.declared.event.Notice.{Notice}
use Rattle.net_rules.specs.declared.event.Notice.TheVariants as notice
use Rattle.net_rules.specs.After.{after}

-- the numbers of the open requests
abbrev pub numbers_of : Inputs → List ℕ
numbers_of inputs = map (λ o. o.number) inputs.interfaces ++ map (λ o. o.number) inputs.radios

-- the place of an interface or a radio among the rows
abbrev pub interface_place : Conf → List ℕ → ℕ
interface_place conf name = unwrap_or (position (λ row. bytes_eq row.name name) conf.interfaces) 0

abbrev pub radio_place : Conf → List ℕ → ℕ
radio_place conf name = unwrap_or (position (λ row. bytes_eq row.name name) conf.radios) 0

abbrev pub interface_notice : Conf → OpenInterface → Notice
interface_notice conf o = notice.Interface o.number (interface_place conf o.request.name) o.request.device

abbrev pub radio_notice : Conf → OpenRadio → Notice
radio_notice conf o = notice.Radio o.number (radio_place conf o.request.name)

-- between two moments: what was open and is not, and what is open and has a number that was not
-- given before
abbrev pub notices_between : Inputs → Inputs → List Notice
notices_between before now =
    map notice.Dropped (ordered nat_cmp
    (filter (λ n. not (list_any (λ m. m == n) (numbers_of now))) (numbers_of before)))
    ++ (map (interface_notice now.conf) (filter (λ o. nat_le before.next o.number) now.interfaces)
    ++ map (radio_notice now.conf) (filter (λ o. nat_le before.next o.number) now.radios))

abbrev pub notices : Inputs → Event → List Notice
notices inputs event = notices_between inputs (after inputs event)
