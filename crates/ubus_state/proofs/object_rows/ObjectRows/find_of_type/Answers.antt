use Rattle.std.proofs.Common.{ℕ, ◌==◌, List, Bool, map, refl, sym, ap, ◌∙◌}
use Rattle.std.specs.List.{find}
use Rattle.ubus_table.specs.Table.{has_number}
use Rattle.ubus_table.specs.declared.rows.Object.{Object}
use Rattle.ubus_state.specs.Pairs.{type_pair}
use Rattle.ubus_state.specs.Rising.{object_number}
use Rattle.ubus_state.proofs.ObjectLemmas.{first_kept, none_kept, numbers_in}
use Rattle.ubus_state.proofs.RisingLemmas.{climbs}
use Rattle.ubus_state.proofs.object_rows.ObjectRows.find_of_type.Goals as goal

pub returns-in-Some : goal.returns-in-Some
returns-in-Some c =
    let rows : List Object = c.args.self.now.rows.items in
    let climb = climbs object_number rows c.args.self.now.rising.0 in
    let typed : Object → Bool = λ object. object.objtype == c.args.objtype in
    let numbers = sym (numbers_in object_number type_pair (λ object. refl) rows c.args.self.now.by_type c.args.objtype climb c.pairs_of.ensures.ordered c.args.self.now.typed) in
    c.find.ensures ∙ ap (λ (n : ℕ). find (has_number n) rows) c.from.ensures
    ∙ first_kept object_number typed rows c.in-Some.first.now.1 _ climb (numbers ∙ ap (map (λ (pair : ℕ × ℕ). pair.1)) (sym c.pairs_of.ensures.pairs ∙ c.in-Some.ensures.steps))

pub returns-in-None : goal.returns-in-None
returns-in-None c =
    let rows : List Object = c.args.self.now.rows.items in
    let climb = climbs object_number rows c.args.self.now.rising.0 in
    let typed : Object → Bool = λ object. object.objtype == c.args.objtype in
    let numbers = sym (numbers_in object_number type_pair (λ object. refl) rows c.args.self.now.by_type c.args.objtype climb c.pairs_of.ensures.ordered c.args.self.now.typed) in
    sym (none_kept object_number typed rows (numbers ∙ ap (map (λ (pair : ℕ × ℕ). pair.1)) (sym c.pairs_of.ensures.pairs ∙ c.in-None.ensures.steps.0)))
