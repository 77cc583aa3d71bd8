use Rattle.std.proofs.Common.{◌≡◌, drop}
use Rattle.std.specs.Cmp.Lexicographic.{pointwise}
use Rattle.net_rules.specs.Need.{same_options}
use Rattle.net_after.proofs.same.same_rows.Given as goal

-- the lists are the same exactly where what is left of them is
abbrev pub invariant-loop-place : goal.invariant-loop-place
invariant-loop-place l = pointwise (λ x y. same_options x.options y.options) (drop l.place l.rows) (drop l.place l.others) ≡ pointwise (λ x y. same_options x.options y.options) l.rows l.others
