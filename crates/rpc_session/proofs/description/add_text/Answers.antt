use Rattle.std.proofs.Common.{◌∙◌, ap}
use Rattle.std.specs.BTreeSet.{insert_key}
use Rattle.rpc_session.specs.Values.{byte_order}
use Rattle.rpc_session.proofs.OrderLemmas.{key_put}
use Rattle.rpc_session.proofs.description.add_text.Goals as goal

pub returns : goal.returns
returns c = c.in_ok-_new.ensures.keys ∙ (ap (insert_key byte_order c.args.texts.now.keys) c.in_ok-copy.ensures ∙ key_put c.args.text.now c.args.texts.now.keys)
