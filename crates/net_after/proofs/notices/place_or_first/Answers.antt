use Rattle.std.proofs.Common.{ℕ, Option, ap, ◌∙◌}
use Rattle.std.specs.Prelude.{unwrap_or}
use Rattle.net_after.proofs.notices.place_or_first.Goals as goal

pub returns-in-Some : goal.returns-in-Some
returns-in-Some c names has = ap (λ (o : Option ℕ). unwrap_or o 0) (c.in-Some.ensures.value ∙ has c.args.name.now)

pub returns-in-None : goal.returns-in-None
returns-in-None c names has = ap (λ (o : Option ℕ). unwrap_or o 0) (c.in-None.ensures.value ∙ has c.args.name.now)
