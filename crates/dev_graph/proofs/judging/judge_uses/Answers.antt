use Rattle.std.proofs.Common.{ℕ, ◌<◌, List, length, Contains, sym, subst}
use Rattle.graph_rules.specs.State.{Known}
use Rattle.graph_tables.specs.Differing.{DiffersAt}
use Rattle.dev_graph.proofs.judging.judge_uses.Goals as goal

pub judge_marked-requires-clause-ids : goal.judge_marked-requires-clause-ids
judge_marked-requires-clause-ids c =
    subst (λ (ids : List ℕ). (id : ℕ) → Contains ids id → id < length c.args.names.now.names) (sym c.ids.ensures.ids) c.requires.ids

pub judge_marked-requires-clause-before : goal.judge_marked-requires-clause-before
judge_marked-requires-clause-before c =
    subst (λ (ids : List ℕ). (before : Known) × DiffersAt before c.args.names.now ids c.args.used.now.items c.args.objects.now.wishes) (sym c.ids.ensures.ids) c.requires.before
