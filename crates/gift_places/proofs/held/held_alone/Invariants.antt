use Rattle.std.proofs.Common.{◌≡◌, take}
use Rattle.gift_places.specs.Expecting.{all_held_alone}
use Rattle.gift_places.proofs.held.held_alone.Given as goal

-- those of the gifts so far
abbrev pub invariant-loop-place : goal.invariant-loop-place
invariant-loop-place l = record { alone : l.alone ≡ all_held_alone (take l.place l.gifts) }
