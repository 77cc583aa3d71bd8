use Rattle.net_after.proofs.OrderLemmas.{put_absent, put_present}
use Rattle.net_after.proofs.order.note_option.Goals as goal

pub returns-then-contains_key : goal.returns-then-contains_key
returns-then-contains_key c later is = put_present c.args.option.now later c.args.by_name.now c.contains_key.result is c.contains_key.ensures c.if-contains_key.true

pub returns : goal.returns
returns c later is = put_absent c.args.option.now later c.args.by_name.now c.insert.new.self _ _ c.contains_key.result c.in_ok-name.ensures c.in_ok-copy_option.ensures is c.contains_key.ensures c.if-contains_key.false
    c.in_ok-_none.ensures.entries c.insert.ensures.ordered
