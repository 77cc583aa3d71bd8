use Rattle.kern_calls.proofs.PartLemmas.{takes_then_puts, first_take_or_put}
use Rattle.kern_calls.proofs.part_laws.takes_come_before_puts.Goals as goal

pub returns-clause-parts : goal.returns-clause-parts
returns-clause-parts c = takes_then_puts

pub returns-clause-first : goal.returns-clause-first
returns-clause-first c = first_take_or_put
