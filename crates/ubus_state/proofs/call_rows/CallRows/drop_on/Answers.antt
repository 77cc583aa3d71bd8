use Rattle.std.proofs.Common.{rules, Bool, not, sym, ap, ◌∙◌}
use Rattle.std.proofs.lemmas.Fn.{filter_same}
use Rattle.ubus_table.specs.Objects.{is_on}
use Rattle.ubus_state.specs.declared.calls.OpenCall.{OpenCall}
use Rattle.ubus_state.specs.Calls.{call_of, calls_of}
use Rattle.ubus_state.proofs.ListLemmas.{filter_of_map}
use Rattle.ubus_state.proofs.NamedLemmas.{tied_filtered}
use Rattle.ubus_state.proofs.call_rows.CallRows.drop_on.Goals as goal

pub returns : goal.returns
returns c = ap calls_of c.drop_calls_on.ensures ∙ sym (filter_of_map (λ call. not (is_on c.args.number call)) call_of c.args.self.now.rows.items)

pub invariant_of-self : goal.invariant_of-self
invariant_of-self c =
    let kept : OpenCall → Bool = λ call. not (is_on c.args.number (call_of call)) in
    record {
      tied = tied_filtered kept c.args.self.now.rows.items c.drop_calls_on.new.calls.items c.args.self.now.by_name.keys c.retain.new.self.keys c.args.self.now.next c.args.self.now.tied
          c.drop_calls_on.ensures (filter_same _ kept _ (λ x b f' k. search rules) _ _ c.retain.ensures.filtered);
    }
