use Rattle.kern_calls.proofs.CountLemmas.{set_of_items}
use Rattle.kern_calls.proofs.part_laws.sets_are_those_of_their_items.Goals as goal

pub returns : goal.returns
returns c = set_of_items
