use Rattle.std.proofs.Common.{◌≡◌, take}
use Rattle.rpc_session.proofs.objects.copy_grants.Given as goal

-- the copies so far
abbrev pub invariant-loop-grant : goal.invariant-loop-grant
invariant-loop-grant l = l.copies ≡ take l.grant-index l.grants
