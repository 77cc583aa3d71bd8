use Rattle.std.proofs.Common.{ℕ, List, [], ap, sym, ◌∙◌}
use Rattle.std.specs.Option.{option_to_list}
use Rattle.std.specs.List.{find}
use Rattle.ubus_table.specs.Table.{has_number}
use Rattle.ubus_table.specs.declared.rows.Object.{Object}
use Rattle.ubus_state.specs.Paths.{has_path}
use Rattle.ubus_state.specs.Rising.{object_number}
use Rattle.ubus_state.proofs.ObjectLemmas.{first_kept, none_kept}
use Rattle.ubus_state.proofs.PathLemmas.{one_named}
use Rattle.ubus_state.proofs.RisingLemmas.{climbs}
use Rattle.ubus_state.proofs.object_rows.ObjectRows.find_of_path.Goals as goal

pub returns-in-Some : goal.returns-in-Some
returns-in-Some c =
    let rows : List Object = c.args.self.now.rows.items in
    let path = c.args.path.now in
    let number = c.in-Some.number.now in
    let named = c.args.self.now.named path ∙ ap option_to_list (sym c.in-Some.ensures.value) in
    let first = first_kept object_number (has_path path) rows number [] (climbs object_number rows c.args.self.now.rising.0) named in
    one_named c.args.self.now.by_path rows path c.args.self.now.named ∙ ap option_to_list (sym first ∙ sym (c.find.ensures ∙ ap (λ (n : ℕ). find (has_number n) rows) c.from.ensures))

pub returns-in-None : goal.returns-in-None
returns-in-None c =
    let rows : List Object = c.args.self.now.rows.items in
    let path = c.args.path.now in
    let named = c.args.self.now.named path ∙ ap option_to_list (sym c.in-None.ensures.value) in
    one_named c.args.self.now.by_path rows path c.args.self.now.named ∙ ap option_to_list (none_kept object_number (has_path path) rows named)
