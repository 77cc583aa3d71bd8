use Rattle.std.proofs.Common.{◌≡◌}
use Rattle.serde_json.specs.View.{members_view}
use Rattle.rpc_login.specs.Form as spec
use Rattle.rpc_login.proofs.ReadLemmas.{behind}
use Rattle.rpc_login.proofs.read.read_scopes.Given as goal

-- those so far, and then those of the others
abbrev pub invariant-loop-scope : goal.invariant-loop-scope
invariant-loop-scope l = spec.scopes l.write (members_view l.members.entries) ≡ behind l.perms (spec.scopes l.write (members_view l.scope-iterator))
