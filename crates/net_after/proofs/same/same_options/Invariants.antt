use Rattle.std.proofs.Common.{◌≡◌, drop}
use Rattle.net_rules.specs.Need.{same_options}
use Rattle.net_after.proofs.same.same_options.Given as goal

-- the lists are the same exactly where what is left of them is
abbrev pub invariant-loop-place : goal.invariant-loop-place
invariant-loop-place l = same_options (drop l.place l.options) (drop l.place l.others) ≡ same_options l.options l.others
