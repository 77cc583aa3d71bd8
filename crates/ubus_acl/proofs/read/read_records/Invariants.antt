use Rattle.std.proofs.Common.{◌≡◌, drop, length}
use Rattle.serde_json.specs.View.{items_view}
use Rattle.ubus_acl.specs.Form as spec
use Rattle.ubus_acl.proofs.ReadLemmas.{records_behind}
use Rattle.ubus_acl.proofs.read.read_records.Given as goal

-- the records so far, and then those of the other items
abbrev pub invariant-loop-item : goal.invariant-loop-item
invariant-loop-item l = spec.records_from 0 (items_view l.items) ≡ records_behind l.records (spec.records_from (length l.records) (items_view (drop l.item-index l.items)))
