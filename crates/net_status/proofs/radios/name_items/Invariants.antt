use Rattle.std.proofs.Common.{◌≡◌, map, take}
use Rattle.serde_json.specs.View.{view}
use Rattle.net_status.specs.Values.{text_or_null}
use Rattle.net_status.proofs.radios.name_items.Given as goal

-- the ports so far
abbrev pub invariant-loop-port : goal.invariant-loop-port
invariant-loop-port l = map view l.items.items ≡ map text_or_null (take l.port-index l.ports)
