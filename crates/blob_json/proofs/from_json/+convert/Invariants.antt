use Rattle.std.proofs.Common.{◌≡◌, length, drop}
use Rattle.serde_json.specs.View.{items_view, members_view}
use Rattle.blob_json.specs.Converted.{behind}
use Rattle.blob_json.specs.FromJson.{items_from, members_of}
use Rattle.blob_json.proofs.from_json.+convert.Given as goal

abbrev pub invariant-convert_members-loop-name : goal.invariant-convert_members-loop-name
invariant-convert_members-loop-name l =
    members_of l.levels (members_view l.members.entries) ≡ behind l.attrs (members_of l.levels (members_view l.name-iterator))

abbrev pub invariant-convert_items-loop-item : goal.invariant-convert_items-loop-item
invariant-convert_items-loop-item l =
    items_from l.levels 0 (items_view l.items.items) ≡ behind l.attrs (items_from l.levels (length l.attrs) (items_view (drop l.item-index l.items.items)))
