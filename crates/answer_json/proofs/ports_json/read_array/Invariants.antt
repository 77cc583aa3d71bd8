use Rattle.std.proofs.Common.{map, take}
use Rattle.serde_json.specs.View.{view, items_of}
use Rattle.answer_json.specs.Members.{AreItems}
use Rattle.answer_json.specs.PortsJson.{IsPort}
use Rattle.answer_json.proofs.ports_json.read_array.Given as goal

abbrev pub invariant-loop-item : goal.invariant-loop-item
invariant-loop-item l = AreItems IsPort (items_of (map view (take l.item-index l.item-items))) l.ports
