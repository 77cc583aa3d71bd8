use Rattle.std.proofs.Common.{◌≡◌, drop}
use Rattle.serde_json.specs.View.{members_view}
use Rattle.ubus_acl.specs.Form as spec
use Rattle.ubus_acl.proofs.ReadLemmas.{behind}
use Rattle.ubus_acl.proofs.read.read_methods.Given as goal

-- the objects so far, and then those of the other members
abbrev pub invariant-loop-object : goal.invariant-loop-object
invariant-loop-object l = spec.methods (members_view l.members.entries) ≡ behind l.access (spec.methods (members_view l.object-iterator))
