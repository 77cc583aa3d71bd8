use Rattle.std.proofs.Common.{ltb, ltb-true, ltb-false, rules}
use Rattle.std.proofs.lemmas.List.Sorted.{IsPartitionPoint-from_clause, IsPartitionedBy-ltb}
use Rattle.ubus_state.specs.Calls.{call_number}
use Rattle.ubus_state.proofs.RisingLemmas.{rises_slowly}
use Rattle.ubus_state.proofs.call_rows.lower_calls.Goals as goal

pub returns : goal.returns
returns c =
    let parted = IsPartitionedBy-ltb call_number _ c.args.number (rises_slowly call_number _ c.requires) in
    let point = IsPartitionPoint-from_clause (λ call. ltb call.number c.args.number) _ _ c.partition_point.ensures.partitioned parted (λ a r q k. search rules) in
    (λ k d low high. ltb-true _ _ (point.0 k d low high), λ k d low high. ltb-false _ _ (point.1 k d low high))
