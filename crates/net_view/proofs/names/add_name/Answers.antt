use Rattle.net_view.proofs.NameLemmas.{adds_name}
use Rattle.net_view.proofs.names.add_name.Goals as goal

pub returns : goal.returns
returns c = adds_name c.args.names.now c.insert.new.self c.args.name c.in_ok-_added.ensures.updates.0
