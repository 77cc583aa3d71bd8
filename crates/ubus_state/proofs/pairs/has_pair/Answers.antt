use Rattle.std.proofs.Common.{ap, sym, ◌∙◌}
use Rattle.ubus_state.specs.Pairs.{has_first}
use Rattle.ubus_state.proofs.NamedLemmas.{any_kept, has_any, some_next}
use Rattle.ubus_state.proofs.pairs.has_pair.Goals as goal

pub returns : goal.returns
returns c =
    c.is_some.ensures
    ∙ some_next c.pairs_of.result c.next.new.self c.next.result c.next.ensures.steps
    ∙ ap has_any c.pairs_of.ensures.pairs
    ∙ sym (any_kept (has_first c.args.first) c.args.pairs.now.keys)
