use Rattle.std.proofs.Common.{◌<◌, ◌∙◌, sym, length, arith}
use Rattle.ubus_acl.proofs.ReadLemmas.{records_go_on}
use Rattle.ubus_acl.proofs.read.read_records.Goals as goal

pub loop-item-preserved : goal.loop-item-preserved
loop-item-preserved c =
    let h : c.loop-item.item-index < length c.args.items.now = omega arith in
    records_go_on _ _ _ c.args.items.now c.loop-item.item-index c.item-item.result c.in-Some.row h c.item-item.is c.loop-item.invariant
    (sym c.in_ok-row.ensures ∙ c.in-Some.is) c.in_ok-push.ensures.ok
