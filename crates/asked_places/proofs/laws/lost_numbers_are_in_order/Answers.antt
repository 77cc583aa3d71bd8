use Rattle.asked_places.proofs.OrderLemmas.{lost_once, lost_are}
use Rattle.asked_places.proofs.laws.lost_numbers_are_in_order.Goals as goal

pub returns-clause-once : goal.returns-clause-once
returns-clause-once c = λ inputs least bound places once rising. lost_once inputs once least bound places rising

pub returns-clause-told : goal.returns-clause-told
returns-clause-told c = λ inputs places numbers once sorted members. lost_are inputs once places numbers sorted members
