use Rattle.std.proofs.Common.{◌≡◌, drop}
use Rattle.serde_json.specs.View.{items_view}
use Rattle.rpc_login.specs.Form as spec
use Rattle.rpc_login.proofs.ReadLemmas.{groups_behind}
use Rattle.rpc_login.proofs.read.read_files.Given as goal

-- the groups so far, and then those of the other files
abbrev pub invariant-loop-index : goal.invariant-loop-index
invariant-loop-index l =
    spec.groups_from 0 (items_view l.files) ≡ groups_behind l.groups (spec.groups_from l.index (items_view (drop l.index l.files)))
