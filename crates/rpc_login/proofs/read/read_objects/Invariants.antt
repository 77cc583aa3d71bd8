use Rattle.std.proofs.Common.{◌≡◌}
use Rattle.serde_json.specs.View.{members_view}
use Rattle.rpc_login.specs.Form as spec
use Rattle.rpc_login.proofs.ReadLemmas.{behind}
use Rattle.rpc_login.proofs.read.read_objects.Given as goal

-- those so far, and then those of the others
abbrev pub invariant-loop-object : goal.invariant-loop-object
invariant-loop-object l = spec.objects l.write l.scope (members_view l.members.entries) ≡ behind l.perms (spec.objects l.write l.scope (members_view l.object-iterator))
