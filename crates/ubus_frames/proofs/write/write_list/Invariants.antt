use Rattle.std.proofs.Common.{◌≡◌, ◌++◌, take}
use Rattle.ubus_frames.specs.Written.{numbers_bytes}
use Rattle.ubus_frames.proofs.write.write_list.Given as goal

abbrev pub invariant-loop-number : goal.invariant-loop-number
invariant-loop-number l = l.out.items ≡ l.initial.out.items ++ numbers_bytes (take l.number-index l.numbers)
