use Rattle.kern_calls.proofs.PartLemmas.{in_parts, first_in_parts}
use Rattle.kern_calls.proofs.UpperLemmas.{upper_taken, upper_put, loses_link_in_parts, one_order}
use Rattle.kern_calls.proofs.part_laws.calls_come_in_parts.Goals as goal

pub returns-clause-parts : goal.returns-clause-parts
returns-clause-parts c = in_parts

pub returns-clause-first : goal.returns-clause-first
returns-clause-first c = first_in_parts

pub returns-clause-take : goal.returns-clause-take
returns-clause-take c = upper_taken

pub returns-clause-put : goal.returns-clause-put
returns-clause-put c = upper_put

pub returns-clause-loses_link : goal.returns-clause-loses_link
returns-clause-loses_link c = loses_link_in_parts

pub returns-clause-order : goal.returns-clause-order
returns-clause-order c = one_order
