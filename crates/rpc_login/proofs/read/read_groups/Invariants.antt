use Rattle.std.proofs.Common.{◌≡◌}
use Rattle.serde_json.specs.View.{members_view}
use Rattle.rpc_login.specs.Form as spec
use Rattle.rpc_login.proofs.ReadLemmas.{behind}
use Rattle.rpc_login.proofs.read.read_groups.Given as goal

-- those so far, and then those of the others
abbrev pub invariant-loop-name : goal.invariant-loop-name
invariant-loop-name l = spec.named_groups (members_view l.members.entries) ≡ behind l.groups (spec.named_groups (members_view l.name-iterator))
