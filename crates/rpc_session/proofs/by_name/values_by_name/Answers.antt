use Rattle.rpc_session.proofs.OrderLemmas.{none_named, one_named}
use Rattle.rpc_session.proofs.by_name.values_by_name.Goals as goal

pub loop-attr-init : goal.loop-attr-init
loop-attr-init c = none_named c.args.attrs c.new-by_name.result c.new-by_name.ensures.empty c.new-by_name.ensures.ordered

pub loop-attr-preserved : goal.loop-attr-preserved
loop-attr-preserved c =
    one_named c.args.attrs c.loop-attr.rest c.pop.new.self c.in-Some.attr c.loop-attr.by_name c.note_value.new.by_name c.loop-attr.invariant
    c.in-Some.ensures (c.in_ok-note_value.ensures c.loop-attr.invariant.behind c.loop-attr.invariant.is)
