use Rattle.std.proofs.Common.{arith}
use Rattle.given_objects.proofs.order.put_in_order.Goals as goal

pub returns-clause-room : goal.returns-clause-room
returns-clause-room c = record {
  takes = omega (arith, c.requires.room.takes, c.list_coming.ensures.capacity);
  puts = omega (arith, c.requires.room.puts, c.list_coming-2.ensures.capacity);
  list = omega (arith, c.requires.room.list, c.unlist_all_done.ensures.list_capacity);
  flags = omega (arith, c.requires.room.flags, c.unlist_all_done.ensures.flags_capacity);
}

pub returns-clause-order : goal.returns-clause-order
returns-clause-order c = record { takes = λ kept. c.list_coming.ensures.listed; puts = λ kept. c.list_coming-2.ensures.listed }

pub returns-clause-done : goal.returns-clause-done
returns-clause-done c was = c.unlist_all_done.ensures.done
