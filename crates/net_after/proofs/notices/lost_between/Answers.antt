use Rattle.std.proofs.Common.{ℕ, List, subst, ◌∙◌}
use Rattle.net_rules.specs.Notices.{numbers_of}
use Rattle.net_after.specs.NumberSet.{HasNumbers}
use Rattle.net_after.proofs.notices.lost_between.Goals as goal

pub returns : goal.returns
returns c =
    let numbers : List ℕ = numbers_of c.args.now.now in
    let has : HasNumbers numbers c.in_ok-still_open.still_open = subst (λ (z : List ℕ). HasNumbers z c.in_ok-still_open.still_open) (c.as_slice.ensures ∙ c.in_ok-current.ensures) c.in_ok-still_open.ensures in
    c.lost_numbers.ensures numbers has
