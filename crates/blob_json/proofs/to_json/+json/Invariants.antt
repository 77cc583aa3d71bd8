use Rattle.std.proofs.Common.{◌≡◌, map, take}
use Rattle.serde_json.specs.Data.{no_members}
use Rattle.serde_json.specs.View.{view, members_view}
use Rattle.blob_json.specs.ToJson.{data_of, named_of, put_all}
use Rattle.blob_json.proofs.to_json.+json.Given as goal

abbrev pub invariant-convert_members-loop-attr : goal.invariant-convert_members-loop-attr
invariant-convert_members-loop-attr l = members_view l.members.entries ≡ put_all no_members (map named_of (take l.attr-index l.attrs))

abbrev pub invariant-convert_items-loop-attr : goal.invariant-convert_items-loop-attr
invariant-convert_items-loop-attr l = map view l.items.items ≡ map (λ attr. data_of attr.value) (take l.attr-index l.attrs)
