use Rattle.ubus_state.proofs.NamedLemmas.{tied_removed}
use Rattle.ubus_state.proofs.call_rows.CallRows.take.Goals as goal

pub invariant_of-self : goal.invariant_of-self
invariant_of-self c = record {
  tied = tied_removed c.args.self.now.rows.items c.remove-call.new.self.items c.args.self.now.by_name.keys c.remove.new.self.keys c.args.self.now.next c.args.place c.remove-call.result
      c.args.self.now.tied c.requires c.remove-call.ensures.value c.remove-call.ensures.items c.remove.ensures.keys;
}
