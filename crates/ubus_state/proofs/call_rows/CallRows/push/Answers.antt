use Rattle.std.proofs.Common.{◌++◌, ◌∷◌, List, [], refl, ap, ◌∙◌}
use Rattle.ubus_state.specs.declared.calls.OpenCall.{OpenCall}
use Rattle.ubus_state.proofs.NamedLemmas.{tied_as, tied_pushed}
use Rattle.ubus_state.proofs.call_rows.CallRows.push.Goals as goal

pub invariant_of-self-2 : goal.invariant_of-self-2
invariant_of-self-2 c =
    let rows : List OpenCall = c.args.self.now.rows.items in
    let row : OpenCall = record c.args.call { number = c.args.self.now.next } in
    record {
      tied = tied_pushed rows c.push_reserved.new.self.items c.args.self.now.by_name.keys c.insert.new.self.keys c.args.self.now.next row c.args.self.now.tied refl
          (c.push_reserved.ensures.items ∙ ap (λ (z : List OpenCall). z ++ row ∷ []) c.reserve.ensures.items) c.in_ok-insert.ensures.keys c.insert.ensures.ordered;
    }

-- where there is no room, all stays
pub invariant_of-self : goal.invariant_of-self
invariant_of-self c = record {
  tied = tied_as c.reserve.new.self.items c.args.self.now.rows.items c.args.self.now.by_name.keys c.args.self.now.by_name.keys c.args.self.now.next c.reserve.ensures.items refl c.args.self.now.tied;
}
