use Rattle.std.proofs.Common.{List, ap₂, ◌∙◌, arith}
use Rattle.std.specs.Prelude.{filter}
use Rattle.std.specs.declared.ops.Bound.TheVariants.{Included, Excluded}
use Rattle.std.specs.Ordering.{is_gt}
use Rattle.std.specs.BTreeMap.Range.{range_contains}
use Rattle.ubus_state.specs.declared.calls.OpenCall.{OpenCall}
use Rattle.ubus_state.proofs.NamedLemmas.{bounds_rise, call_cmp, named_rows}
use Rattle.ubus_state.proofs.call_rows.CallRows.named.Goals as goal

pub returns : goal.returns
returns c =
    let keys : List OpenCall = c.args.self.now.by_name.keys in
    c.range.ensures.between tt
    ∙ ap₂ (λ (low high : OpenCall). filter (range_contains call_cmp (Included low) (Excluded high)) keys) c.bound-first.ensures c.bound-last.ensures
    ∙ named_rows c.args.self.now.rows.items keys c.args.self.now.next c.args.caller c.args.seq c.args.self.now.next c.args.self.now.tied (omega arith)

pub range-requires : goal.range-requires
range-requires c =
    ap₂ (λ (low high : OpenCall). is_gt (call_cmp low high)) c.bound-first.ensures c.bound-last.ensures
    ∙ bounds_rise c.args.caller c.args.seq c.args.self.now.next
