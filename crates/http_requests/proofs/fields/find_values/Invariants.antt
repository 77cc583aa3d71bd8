use Rattle.std.proofs.Common.{map, drop}
use Rattle.httparse.specs.Spans.{header_bytes}
use Rattle.http_requests.specs.Fields as spec
use Rattle.http_requests.specs.Found.{IsFound}
use Rattle.http_requests.proofs.fields.find_values.Given as goal

-- the values are those found so far, and those of the fields that are left
abbrev pub invariant-loop-header : goal.invariant-loop-header
invariant-loop-header l = IsFound (spec.values_of l.name (map (header_bytes l.buf) l.headers)) l.found (spec.values_of l.name (map (header_bytes l.buf) (drop l.header-index l.headers)))
