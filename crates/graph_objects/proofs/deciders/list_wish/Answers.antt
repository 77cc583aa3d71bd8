use Rattle.graph_objects.proofs.DeciderLemmas.{listed_on}
use Rattle.graph_objects.proofs.deciders.list_wish.Goals as goal

pub returns-clause-more : goal.returns-clause-more
returns-clause-more c = listed_on c.args.by_id.now.items c.list.new.by_id.items c.list-2.new.by_id.items c.args.index c.in_ok-list.ensures.more c.list-2.ensures.more
