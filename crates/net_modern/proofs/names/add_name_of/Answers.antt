use Rattle.std.proofs.Common.{rules}
use Rattle.net_modern.proofs.NameLemmas.{added_name}
use Rattle.net_modern.proofs.names.add_name_of.Goals as goal

pub returns : goal.returns
returns c = added_name c.args.names.now c.insert.new.self _ c.args.section.now (first_of (search rules, cc)) (first_of (search rules, cc)) c.in_ok-_is_new.ensures.updates.0
