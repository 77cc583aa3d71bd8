use Rattle.std.proofs.Common.{arith}
use Rattle.ubus_frames.proofs.WriteLemmas.{list_more}
use Rattle.ubus_frames.proofs.write.write_list.Goals as goal

pub loop-number-preserved : goal.loop-number-preserved
loop-number-preserved c =
    list_more _ _ _ _ _ _ _ (omega arith) c.to_be_bytes.ensures c.loop-number.invariant c.in_ok-write_field.ensures
