use Rattle.std.proofs.Common.{List, ◌++◌, Option, Some, None, ap, subst}
use Rattle.std.specs.Prelude.{option_to_list}
use Rattle.net_rows.proofs.WordLemmas.{on_ok_then}
use Rattle.net_rules.specs.RadioPorts.{RadioPort}
use Rattle.net_view.specs.RadioPorts.{AreJoins}
use Rattle.net_view.proofs.JoinLemmas.{join_none}
use Rattle.net_view.proofs.radio_ports.add_join_of.Goals as goal

pub returns-in-Some : goal.returns-in-Some
returns-in-Some c = λ all is. on_ok_then c.add.result (subst (λ (o : Option RadioPort). AreJoins (all ++ option_to_list o) c.add.new.self) c.in-Some.ensures) (c.add.ensures all is)

pub returns-in-None : goal.returns-in-None
returns-in-None c = λ all is. subst (λ (o : Option RadioPort). AreJoins (all ++ option_to_list o) c.args.joins.now) c.in-None.ensures (join_none all c.args.joins.now is)
