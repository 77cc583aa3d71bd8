use Rattle.net_rebuild.proofs.LookLemmas.{held_looked, counted_looked, ready_looked}
use Rattle.net_rebuild.proofs.beginning.look.Goals as goal

pub returns-clause-held : goal.returns-clause-held
returns-clause-held c = held_looked c.args.settling.now c.view_lost_links.new.self c.view_lost_links.ensures.graph c.view_lost_links.ensures.gifts

pub returns-clause-counted : goal.returns-clause-counted
returns-clause-counted c = counted_looked c.args.settling.now c.view_lost_links.new.self c.view_lost_links.ensures.graph c.view_lost_links.ensures.gifts

pub returns-clause-ready : goal.returns-clause-ready
returns-clause-ready c =
    ready_looked c.args.settling.now c.view_lost_links.new.self c.view_lost_links.ensures.graph c.view_lost_links.ensures.gifts c.view_lost_links.ensures.may_lose_link
    c.is_kept.ensures c.len-count.ensures.gifts c.requires
