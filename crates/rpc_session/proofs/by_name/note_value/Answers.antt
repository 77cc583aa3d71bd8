use Rattle.rpc_session.proofs.OrderLemmas.{put_absent, put_present}
use Rattle.rpc_session.proofs.by_name.note_value.Goals as goal

pub returns-then-contains_key : goal.returns-then-contains_key
returns-then-contains_key c later is = put_present c.args.attr later c.args.by_name.now c.contains_key.result is c.contains_key.ensures c.if-contains_key.true

pub returns : goal.returns
returns c later is = put_absent c.args.attr later c.args.by_name.now c.insert.new.self c.contains_key.result is c.contains_key.ensures c.if-contains_key.false c.in_ok-_none.ensures.entries c.insert.ensures.ordered
