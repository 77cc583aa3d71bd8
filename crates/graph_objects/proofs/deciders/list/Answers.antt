use Rattle.graph_objects.proofs.DeciderLemmas.{same_listed, one_listed, one_there, none_more}
use Rattle.graph_objects.proofs.deciders.list.Goals as goal

pub returns-clause-ok : goal.returns-clause-ok
returns-clause-ok c = one_there c.args.by_id.now.items c.make_list.new.by_id.items c.args.id c.args.index c.index_mut.result.now c.push.new.self c.in_ok-make_list.ensures.same c.in_ok-make_list.ensures.ok c.index_mut.ensures.value
    c.in_ok-push.ensures.items

pub returns-clause-more : goal.returns-clause-more
returns-clause-more c = one_listed c.args.by_id.now.items c.make_list.new.by_id.items c.args.id c.args.index c.index_mut.result.now c.push.new.self c.in_ok-make_list.ensures.same c.in_ok-make_list.ensures.ok c.index_mut.ensures.value
    c.in_ok-push.ensures.items

pub returns-in_err-make_list-clause-more : goal.returns-in_err-make_list-clause-more
returns-in_err-make_list-clause-more c = same_listed c.args.by_id.now.items c.make_list.new.by_id.items c.args.index c.in_err-make_list.ensures.same

pub returns-in_err-push-clause-more : goal.returns-in_err-push-clause-more
returns-in_err-push-clause-more c = none_more c.args.by_id.now.items c.make_list.new.by_id.items c.args.id c.args.index c.index_mut.result.now c.push.new.self c.in_ok-make_list.ensures.same c.in_ok-make_list.ensures.ok
    c.index_mut.ensures.value c.in_err-push.ensures.items
