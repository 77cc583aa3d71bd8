use Rattle.std.proofs.Common.{is_some, refl, ap, sym, ◌∙◌}
use Rattle.graph_rules.specs.declared.ids.DevId.{DevId}
use Rattle.graph_rules.specs.State.{place_among}
use Rattle.net_rebuild.proofs.NameLemmas.{is_placed, some_mapped, none_mapped, one_joins, none_joins}
use Rattle.net_rebuild.proofs.radios.know_name.Goals as goal

pub returns-then-is_some-clause-more : goal.returns-then-is_some-clause-more
returns-then-is_some-clause-more c = none_joins c.args.graph.now c.args.graph.now refl

pub returns-then-is_some-clause-known : goal.returns-then-is_some-clause-known
returns-then-is_some-clause-known c =
    is_placed c.args.graph.now c.args.name.now
    (ap is_some (sym c.find.ensures) ∙ some_mapped (λ (id : DevId). id.0) c.find.result ∙ sym c.is_some.ensures ∙ c.if-is_some.true)

pub returns-in-Ok-clause-more : goal.returns-in-Ok-clause-more
returns-in-Ok-clause-more c =
    one_joins c.args.graph.now c.add_plain.new.self c.args.name.now
    (none_mapped (λ (id : DevId). id.0) c.find.result (place_among c.args.graph.now.known.names c.args.name.now) c.find.ensures (sym c.is_some.ensures ∙ c.if-is_some.false))
    c.in-Ok.ensures.ok

pub returns-in-Err-clause-more : goal.returns-in-Err-clause-more
returns-in-Err-clause-more c = none_joins c.args.graph.now c.add_plain.new.self c.in-Err.ensures.err
