use Rattle.std.proofs.Common.{ℕ, List, Option, Some, sym, subst}
use Rattle.ubus_state.specs.Paths.{IsNoted}
use Rattle.ubus_state.proofs.PathLemmas.{noted_at}
use Rattle.ubus_state.proofs.paths.note_path.Goals as goal

pub returns-clause-ok : goal.returns-clause-ok
returns-clause-ok c =
    subst (λ (path : Option (List ℕ)). IsNoted c.args.paths.now c.insert.new.self path (Some c.args.number)) (sym c.in-Some.is)
    (noted_at c.args.paths.now c.insert.new.self c.in_ok-key.key c.in-Some.path (Some c.args.number) c.in_ok-key.ensures c.in_ok-insert.ensures.updates.0)
