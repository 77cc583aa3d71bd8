use Rattle.std.proofs.Common.{◌∙◌}
use Rattle.ubus_state.proofs.PathLemmas.{path_there}
use Rattle.ubus_state.proofs.object_rows.ObjectRows.has_path.Goals as goal

pub returns : goal.returns
returns c = c.contains_key.ensures ∙ path_there c.args.self.now.by_path c.args.self.now.rows.items c.args.path.now c.args.self.now.named
