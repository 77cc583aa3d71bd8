use Rattle.std.proofs.Common.{take, take_all}
use Rattle.net_rebuild.proofs.NameLemmas.{none_taken, none_joined, one_joined, more_joins, all_known}
use Rattle.net_rebuild.proofs.radios.know_names.Goals as goal

pub loop-name-init : goal.loop-name-init
loop-name-init c = none_joined c.args.graph.now (take 0 c.args.names.now) (none_taken c.args.names.now)

pub loop-name-preserved : goal.loop-name-preserved
loop-name-preserved c = one_joined c.args.graph.now c.loop-name.graph c.know_name.new.graph c.args.names.now c.loop-name.name-index c.name-item.result c.loop-name-test.true c.name-item.is c.loop-name.invariant c.know_name.ensures.more
    c.in_ok-know_name.ensures.known

pub returns-in_err-know_name-clause-more : goal.returns-in_err-know_name-clause-more
returns-in_err-know_name-clause-more c = more_joins c.args.graph.now c.loop-name.graph c.know_name.new.graph c.loop-name.invariant.more c.know_name.ensures.more

pub returns-clause-more : goal.returns-clause-more
returns-clause-more c = c.loop-name.invariant.more

pub returns-clause-known : goal.returns-clause-known
returns-clause-known c = all_known c.args.graph.now c.loop-name.graph c.args.names.now (take c.loop-name.name-index c.args.names.now) (take_all c.loop-name.name-index c.args.names.now c.loop-name-test.false) c.loop-name.invariant
