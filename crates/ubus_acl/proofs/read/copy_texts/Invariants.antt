use Rattle.std.proofs.Common.{◌≡◌, drop}
use Rattle.serde_json.specs.View.{items_view}
use Rattle.ubus_acl.specs.Form as spec
use Rattle.ubus_acl.proofs.ReadLemmas.{behind}
use Rattle.ubus_acl.proofs.read.copy_texts.Given as goal

-- the texts so far, and then those of the other items
abbrev pub invariant-loop-item : goal.invariant-loop-item
invariant-loop-item l = spec.texts (items_view l.items.items) ≡ behind l.texts (spec.texts (items_view (drop l.item-index l.items.items)))
