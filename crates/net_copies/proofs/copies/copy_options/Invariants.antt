use Rattle.std.proofs.Common.{◌≡◌, take}
use Rattle.net_copies.proofs.copies.copy_options.Given as goal

-- the copies so far
abbrev pub invariant-loop-option : goal.invariant-loop-option
invariant-loop-option l = l.copies ≡ take l.option-index l.options
