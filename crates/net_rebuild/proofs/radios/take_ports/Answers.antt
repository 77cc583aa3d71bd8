use Rattle.std.proofs.Common.{ℕ, List, sym, subst}
use Rattle.graph_rules.specs.declared.ids.RadioPort.{RadioPort}
use Rattle.graph_rules.specs.State.{names_in}
use Rattle.graph_rules.specs.Conditions.{ArePorts}
use Rattle.net_rebuild.specs.Joined.{KnowsAll}
use Rattle.net_rebuild.proofs.NameLemmas.{joined_ok, joined_err}
use Rattle.net_rebuild.proofs.radios.take_ports.Goals as goal

pub set_ports-requires : goal.set_ports-requires
set_ports-requires c =
    let knows : KnowsAll c.args.graph.now c.args.made.now.plain.items c.know_names.new.graph =
    subst (λ (names : List (List ℕ)). KnowsAll c.args.graph.now names c.know_names.new.graph) c.as_slice-names.ensures.value
    (record { more = c.know_names.ensures.more; known = c.in-Ok.ensures.known }) in
    subst (λ (ports : List RadioPort). ArePorts c.know_names.new.graph.known.rows (names_in c.know_names.new.graph.known) ports) (sym c.as_slice-ports.ensures.value)
    (c.requires c.know_names.new.graph knows)

pub returns-clause-ok : goal.returns-clause-ok
returns-clause-ok c =
    let knows : KnowsAll c.args.graph.now c.args.made.now.plain.items c.know_names.new.graph =
    subst (λ (names : List (List ℕ)). KnowsAll c.args.graph.now names c.know_names.new.graph) c.as_slice-names.ensures.value
    (record { more = c.know_names.ensures.more; known = c.in-Ok.ensures.known }) in
    joined_ok c.set_ports.result c.args.graph.now c.know_names.new.graph c.set_ports.new.self c.args.made.now.plain.items c.args.made.now.ports.items c.as_slice-ports.result.now knows c.as_slice-ports.ensures.value c.set_ports.ensures.ok

pub returns-clause-err : goal.returns-clause-err
returns-clause-err c = joined_err c.set_ports.result c.args.graph.now c.know_names.new.graph c.set_ports.new.self c.know_names.ensures.more c.set_ports.ensures.err
