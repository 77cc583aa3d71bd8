use Rattle.std.proofs.Common.{◌≡◌, drop}
use Rattle.rpc_rules.specs.Edits as spec
use Rattle.rpc_rules.proofs.edits.take_moves.Given as goal

-- the other moves are taken by what the moves so far made
abbrev pub invariant-loop-place : goal.invariant-loop-place
invariant-loop-place l = spec.moves_taken l.name l.place (drop l.place l.items) l.plan ≡ spec.moves_taken l.name 0 l.items l.fn.plan
