use Rattle.std.proofs.Common.{ap}
use Rattle.graph_rules.specs.State.{State}
use Rattle.net_follow.proofs.CalmLemmas.{held_looked, counted_looked, ready_looked}
use Rattle.net_follow.proofs.following.look.Goals as goal

pub returns-clause-held : goal.returns-clause-held
returns-clause-held c =
    let e = c.view_lost_links.ensures in
    held_looked c.args.settling.now c.view_lost_links.new.settling e.graph e.may_lose_link e.looked e.quiet

pub returns-clause-loads : goal.returns-clause-loads
returns-clause-loads c = ap (λ (s : State). s.loads) c.view_lost_links.ensures.graph

pub returns-clause-counted : goal.returns-clause-counted
returns-clause-counted c = λ inputs states counted.
    let e = c.view_lost_links.ensures in
    counted_looked c.args.settling.now c.view_lost_links.new.settling e.graph e.may_lose_link e.looked e.quiet inputs states counted

pub returns-clause-ready : goal.returns-clause-ready
returns-clause-ready c = λ inputs states history are counted.
    let e = c.view_lost_links.ensures in
    ready_looked c.args.settling.now c.view_lost_links.new.settling e.graph e.may_lose_link e.looked e.quiet inputs c.requires c.is_kept.ensures c.len-count.ensures.gifts history states are counted
