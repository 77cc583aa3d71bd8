use Rattle.std.proofs.Common.{rules}
use Rattle.std.proofs.lemmas.Fn.{filter_same}
use Rattle.ubus_state.specs.Calls.{is_before}
use Rattle.ubus_state.proofs.NamedLemmas.{tied_filtered}
use Rattle.ubus_state.proofs.call_rows.CallRows.drop_from.Goals as goal

pub invariant_of-self : goal.invariant_of-self
invariant_of-self c = record {
  tied = tied_filtered (is_before c.args.number) c.args.self.now.rows.items c.drop_calls_from.new.calls.items c.args.self.now.by_name.keys c.retain.new.self.keys c.args.self.now.next c.args.self.now.tied
      c.drop_calls_from.ensures (filter_same _ (is_before c.args.number) _ (λ x b f' k. search rules) _ _ c.retain.ensures.filtered);
}
