use Rattle.std.proofs.Common.{ℕ, List, Option, None, refl, sym, subst}
use Rattle.ubus_state.specs.Paths.{IsNoted}
use Rattle.ubus_state.proofs.PathLemmas.{noted_at}
use Rattle.ubus_state.proofs.paths.forget_path.Goals as goal

pub returns-in-Some : goal.returns-in-Some
returns-in-Some c =
    subst (λ (path : Option (List ℕ)). IsNoted c.args.paths.now c.remove.new.self path None) (sym c.in-Some.is)
    (noted_at c.args.paths.now c.remove.new.self c.in-Some.path c.in-Some.path None refl c.remove.ensures.updates.0)
