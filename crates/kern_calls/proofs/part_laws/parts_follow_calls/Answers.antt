use Rattle.kern_calls.proofs.FollowLemmas.{lower_follows, upper_follows, parts_are_whole, joined_parts, lower_goes, goes_with_up}
use Rattle.kern_calls.proofs.CountLemmas.{due_in_parts}
use Rattle.kern_calls.proofs.part_laws.parts_follow_calls.Goals as goal

pub returns-clause-lower : goal.returns-clause-lower
returns-clause-lower c = lower_follows

pub returns-clause-upper : goal.returns-clause-upper
returns-clause-upper c = upper_follows

pub returns-clause-whole : goal.returns-clause-whole
returns-clause-whole c = parts_are_whole

pub returns-clause-joined : goal.returns-clause-joined
returns-clause-joined c = joined_parts

pub returns-clause-gone : goal.returns-clause-gone
returns-clause-gone c = lower_goes

pub returns-clause-with_up : goal.returns-clause-with_up
returns-clause-with_up c = goes_with_up

pub returns-clause-due : goal.returns-clause-due
returns-clause-due c = due_in_parts
