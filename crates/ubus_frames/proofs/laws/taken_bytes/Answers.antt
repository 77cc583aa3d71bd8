use Rattle.ubus_frames.proofs.DivisionLemmas.{first_taken, none_taken}
use Rattle.ubus_frames.proofs.laws.taken_bytes.Goals as goal

pub returns-clause-first : goal.returns-clause-first
returns-clause-first c = λ bytes frame before after t h. first_taken bytes frame before after t h

pub returns-clause-none : goal.returns-clause-none
returns-clause-none c = λ bytes now n h. none_taken bytes now n h
